-- What is written for a claim is read as that claim.
use Rattle.std.proofs.Common.{◌≡◌, ℕ, ◌+◌, ◌≤◌, List, [], ◌∷◌, ◌++◌, map, length, Ok, refl, sym, ap, subst, ◌∙◌, arith, inr, All}
use Rattle.std.proofs.Common.{codes}
use Rattle.std.specs.Int.{w8, w32, from_be_bytes}
use Rattle.std.specs.List.{flat_map, AllByRecursion}
use Rattle.std.proofs.lemmas.List.{append-nil, length-append}
use Rattle.std.proofs.lemmas.List.Concat.{flat_map-cons}
use Rattle.std.proofs.lemmas.List.Elements.{All-head, All-tail, recursion_from_All}
use Rattle.game_rules.specs.Game.{Position}
use Rattle.game_rules.specs.declared.men.Side.{Side}
use Rattle.game_rules.specs.declared.men.Man.{Man}
use Rattle.auto_nodes.specs.Nodes.{Shared}
use Rattle.rule_formula.specs.Mean.{mask_tracks}
use Rattle.mate_plan.specs.Claim.{Claim, ClaimedSet}
use Rattle.strategy_file.specs.declared.refusal.ByteWhy.TheVariants as why
use Rattle.strategy_file.specs.declared.version.Version.{Version}
use Rattle.strategy_file.specs.declared.version.Version.TheVariants as versions
use Rattle.strategy_file.specs.Versions.{most_kind, most_men, most_turn, version_byte, version_of}
use Rattle.strategy_file.specs.Layout.{Layout, Give, bind, one, between, repeated, each, IsFileEnd}
use Rattle.strategy_file.specs.Reading.{taken}
use Rattle.std.specs.Option.{ForSome}
use Rattle.game_rules.specs.Game.{place_square}
use Rattle.game_rules.specs.declared.men.Place.{Place}
use Rattle.game_rules.specs.declared.men.Place.TheVariants.{Gone, At}
use Rattle.chess_game.specs.Near.{IsNarrow, IsNarrowMan}
use Rattle.strategy_writer.specs.Files.{IsBytesOf}
use Rattle.strategy_file.specs.Fitting.{FitsVersion, HasFile, IsFormed}
use Rattle.strategy_writer.specs.Laws.{WrittenIsRead}
use Rattle.strategy_file.specs.Men.{Start, start_layout, start_with, man_layout, version_layout}
use Rattle.strategy_writer.specs.SharedWritten.{AreTablesOf, shared_set_bytes, shared_sets_bytes, shared_table_bytes, written_shared}
use Rattle.strategy_file.specs.Tables.{table_layout, table_of}
use Rattle.strategy_file.specs.StrategyFile.{Chart, chart_of, charts_of, charts_with, chart_with, chart_layout, charts_layout, sets_layout, File, GoesOn}
use Rattle.strategy_file.specs.Numbers.{kind_byte, turn_byte}
use Rattle.strategy_writer.specs.Written.{man_bytes, most_bytes, set_bytes, start_bytes, table_bytes, written_dense}
use Rattle.strategy_writer.proofs.Again.{Again, FitsPlace, give_again, field_again, then_again, as_again, repeated_again, byte_again, man_again, turn_again, winner_again}
use Rattle.strategy_writer.proofs.ListedTables.{automaton_again}
use Rattle.strategy_file.proofs.ReadLemmas.{came, ends_whole}
use Rattle.strategy_writer.proofs.SharedAgain.{shared_again}
use Rattle.strategy_writer.proofs.SharedLengths.{few_nodes, shared_sets_length}

-- ---- all that stands before the sets

version_again : (version : Version) → Again version_layout (version_byte version ∷ []) version
version_again versions.Dense =
    then_again (one (between w8 1 2 why.Version)) (λ n. Give (version_of n)) (1 ∷ []) [] 1 versions.Dense (byte_again 1 2 1 why.Version (omega arith) (omega arith)) (give_again versions.Dense)
version_again versions.Shared =
    then_again (one (between w8 1 2 why.Version)) (λ n. Give (version_of n)) (2 ∷ []) [] 2 versions.Shared (byte_again 1 2 2 why.Version (omega arith) (omega arith)) (give_again versions.Shared)

men_rest : Version → ℕ → ℕ → ℕ → Layout Start
men_rest version moves turn count = bind (repeated count (man_layout (most_kind version))) (λ men. Give (start_with version moves turn men))

count_rest : Version → ℕ → ℕ → Layout Start
unfolding men_rest
count_rest version moves turn = bind (one (between w8 2 (most_men version) why.Count)) (λ count. men_rest version moves turn count)

turn_rest : Version → ℕ → Layout Start
unfolding count_rest
turn_rest version moves = bind (one (between w8 0 (most_turn version) why.Turn)) (λ turn. count_rest version moves turn)

moves_rest : Version → Layout Start
unfolding turn_rest
moves_rest version = bind (one (between w8 0 20 why.Moves)) (λ moves. turn_rest version moves)

version_rest : Layout Start
unfolding moves_rest
version_rest = bind version_layout moves_rest

start_again : (version : Version) (winner : Side) (p : Position) (moves : ℕ) → FitsVersion version winner p → moves ≤ 20 → 2 ≤ length p.men → AllByRecursion (λ m. FitsPlace m.place) p.men
    → Again start_layout (start_bytes version winner p moves) (record { version = version; winner = winner; moves = moves; position = p })
unfolding start_layout start_bytes men_rest count_rest turn_rest moves_rest version_rest
start_again version winner p moves fits few least places =
    let v = version_byte version in
    let t = turn_byte winner p.turn in
    let n = length p.men in
    let kind = most_kind version in
    let made : Start = start_with version moves t p.men in
    let bytes = flat_map man_bytes p.men in
    let kinds : AllByRecursion (λ m. kind_byte m.kind ≤ kind) p.men = recursion_from_All (λ m. kind_byte m.kind ≤ kind) p.men fits.kinds in
    let men =
    then_again (repeated n (man_layout kind)) (λ men. Give (start_with version moves t men)) bytes [] p.men made
    (repeated_again (man_layout kind) man_bytes p.men (each_man p.men kinds places)) (give_again made) in
    let count =
    then_again (one (between w8 2 (most_men version) why.Count)) (λ c. men_rest version moves t c) (n ∷ []) (bytes ++ []) n made
    (byte_again 2 (most_men version) n why.Count least fits.most) men in
    let turn =
    then_again (one (between w8 0 (most_turn version) why.Turn)) (λ c. count_rest version moves c) (t ∷ []) (n ∷ (bytes ++ [])) t made
    (byte_again 0 (most_turn version) t why.Turn (omega arith) fits.turn) count in
    let move = then_again (one (between w8 0 20 why.Moves)) (λ m. turn_rest version m) (moves ∷ []) (t ∷ n ∷ (bytes ++ [])) moves made (byte_again 0 20 moves why.Moves (omega arith) few) turn in
    let versioned = then_again version_layout moves_rest (v ∷ []) (moves ∷ t ∷ n ∷ (bytes ++ [])) version made (version_again version) move in
    let magic =
    then_again (one (between w32 (from_be_bytes w32 (codes "ICSF")) (from_be_bytes w32 (codes "ICSF")) why.Magic)) (λ m. version_rest)
    (codes "ICSF") (v ∷ moves ∷ t ∷ n ∷ (bytes ++ [])) (from_be_bytes w32 (codes "ICSF")) made
    (field_again (between w32 (from_be_bytes w32 (codes "ICSF")) (from_be_bytes w32 (codes "ICSF")) why.Magic) (from_be_bytes w32 (codes "ICSF")) (codes "ICSF") refl refl refl) versioned in
    let same : made ≡ record { version = version; winner = winner; moves = moves; position = p } =
    (λ i. record { version = version; winner = winner_again winner p.turn i; moves = moves; position = record { men = p.men; turn = turn_again winner p.turn i } }) in
    subst (λ s. Again start_layout (start_bytes version winner p moves) s) same
    (as_again start_layout (codes "ICSF" ++ (v ∷ moves ∷ t ∷ n ∷ (bytes ++ []))) (start_bytes version winner p moves) made
    (ap (λ b. codes "ICSF" ++ (v ∷ moves ∷ t ∷ n ∷ b)) (append-nil bytes)) magic)
  where
    each_man : (men : List Man) → AllByRecursion (λ m. kind_byte m.kind ≤ most_kind version) men → AllByRecursion (λ m. FitsPlace m.place) men
        → AllByRecursion (λ m. Again (man_layout (most_kind version)) (man_bytes m) m) men
    each_man [] kinds all = tt
    each_man (m ∷ men) kinds all = (man_again (most_kind version) m kinds.0 all.0, each_man men kinds.1 all.1)

-- ---- a set

chart_again : (version : Version) (p : Position) (c : ClaimedSet) (bytes : List ℕ) → c.set.tracks ≡ mask_tracks p c.mask
    → Again (table_layout version (length c.set.tracks)) bytes (table_of c.set) → Again (chart_layout version p (c.ply, c.mask)) (c.ply ∷ c.mask ∷ bytes) (chart_of c)
unfolding chart_layout
chart_again version p c bytes tracks again =
    let made : Chart = chart_with p (c.ply, c.mask) (table_of c.set) in
    let table : Again (table_layout version (length (mask_tracks p c.mask))) bytes (table_of c.set) =
    subst (λ ts. Again (table_layout version (length ts)) bytes (table_of c.set)) tracks again in
    let last =
    then_again (table_layout version (length (mask_tracks p c.mask))) (λ t. Give (chart_with p (c.ply, c.mask) t)) bytes [] (table_of c.set) made table (give_again made) in
    let mask =
    then_again (one (between w8 c.mask c.mask why.Men))
    (λ m. bind (table_layout version (length (mask_tracks p c.mask))) (λ t. Give (chart_with p (c.ply, c.mask) t))) (c.mask ∷ []) (bytes ++ []) c.mask
    made (byte_again c.mask c.mask c.mask why.Men (omega arith) (omega arith)) last in
    let ply =
    then_again (one (between w8 c.ply c.ply why.Ply))
    (λ q. bind (one (between w8 c.mask c.mask why.Men))
    (λ m. bind (table_layout version (length (mask_tracks p c.mask))) (λ t. Give (chart_with p (c.ply, c.mask) t))))
    (c.ply ∷ []) (c.mask ∷ (bytes ++ [])) c.ply made (byte_again c.ply c.ply c.ply why.Ply (omega arith) (omega arith)) mask in
    let same : made ≡ chart_of c = ap (λ ts. record { ply = c.ply; mask = c.mask; tracks = ts; table = table_of c.set }) (sym tracks) in
    subst (λ x. Again (chart_layout version p (c.ply, c.mask)) (c.ply ∷ c.mask ∷ bytes) x) same
    (as_again (chart_layout version p (c.ply, c.mask)) (c.ply ∷ c.mask ∷ (bytes ++ [])) (c.ply ∷ c.mask ∷ bytes) made (ap (λ b. c.ply ∷ c.mask ∷ b) (append-nil bytes)) ply)

-- a set, and those that follow
charts_again : (version : Version) (p : Position) (c : ClaimedSet) (cs : List ClaimedSet) (front back : List ℕ)
    → Again (chart_layout version p (c.ply, c.mask)) front (chart_of c)
    → Again (each (map (λ (s : ClaimedSet). (s.ply, s.mask)) cs) (chart_layout version p)) back (map chart_of cs)
    → Again (each (map (λ (s : ClaimedSet). (s.ply, s.mask)) (c ∷ cs)) (chart_layout version p)) (front ++ back) (map chart_of (c ∷ cs))
charts_again version p c cs front back here later =
    let places : List (ℕ × ℕ) = map (λ (s : ClaimedSet). (s.ply, s.mask)) cs in
    let layout = chart_layout version p in
    let rest = then_again (each places layout) (λ ys. Give (chart_of c ∷ ys)) back [] (map chart_of cs) (map chart_of (c ∷ cs)) later (give_again (map chart_of (c ∷ cs))) in
    as_again (each ((c.ply, c.mask) ∷ places) layout) (front ++ (back ++ [])) (front ++ back) (map chart_of (c ∷ cs)) (ap (λ b. front ++ b) (append-nil back))
    (then_again (layout (c.ply, c.mask)) (λ y. bind (each places layout) (λ ys. Give (y ∷ ys))) front (back ++ []) (chart_of c) (map chart_of (c ∷ cs)) here rest)

dense_charts : (p : Position) (cs : List ClaimedSet) → All (IsFormed p) cs
    → Again (each (map (λ (s : ClaimedSet). (s.ply, s.mask)) cs) (chart_layout versions.Dense p)) (flat_map set_bytes cs) (map chart_of cs)
unfolding set_bytes
dense_charts p [] formed = give_again []
dense_charts p (c ∷ cs) formed =
    let h = All-head (IsFormed p) c cs formed in
    let here : Again (chart_layout versions.Dense p (c.ply, c.mask)) (set_bytes c) (chart_of c) =
    chart_again versions.Dense p c (table_bytes c.set) h.tracks (automaton_again c.set h.valid h.few) in
    as_again (each (map (λ (s : ClaimedSet). (s.ply, s.mask)) (c ∷ cs)) (chart_layout versions.Dense p)) (set_bytes c ++ flat_map set_bytes cs) (flat_map set_bytes (c ∷ cs)) (map chart_of (c ∷ cs))
    (sym (flat_map-cons set_bytes c cs))
    (charts_again versions.Dense p c cs (set_bytes c) (flat_map set_bytes cs) here (dense_charts p cs (All-tail (IsFormed p) c cs formed)))

shared_charts : (p : Position) (cs : List ClaimedSet) (ts : List Shared) → All (IsFormed p) cs → AreTablesOf cs ts → length (shared_sets_bytes cs ts) ≤ most_bytes
    → Again (each (map (λ (s : ClaimedSet). (s.ply, s.mask)) cs) (chart_layout versions.Shared p)) (shared_sets_bytes cs ts) (map chart_of cs)
unfolding shared_set_bytes
shared_charts p [] [] formed are short = give_again []
shared_charts p [] (t ∷ ts) formed are short = absurd are
shared_charts p (c ∷ cs) [] formed are short = absurd are
shared_charts p (c ∷ cs) (t ∷ ts) formed are short =
    let h = All-head (IsFormed p) c cs formed in
    let size = shared_sets_length c t cs ts in
    let few = few_nodes c t most_bytes are.0 (omega (arith, short, size)) (omega arith) in
    let here : Again (chart_layout versions.Shared p (c.ply, c.mask)) (shared_set_bytes c t) (chart_of c) =
    chart_again versions.Shared p c (shared_table_bytes c.set.accept t) h.tracks (shared_again c.set t h.valid are.0 few h.few) in
    charts_again versions.Shared p c cs (shared_set_bytes c t) (shared_sets_bytes cs ts) here
    (shared_charts p cs ts (All-tail (IsFormed p) c cs formed) are.1 (omega (arith, short, size)))

-- ---- the file

fitting_man : (m : Man) → IsNarrowMan m → FitsPlace m.place
fitting_man m h = fits m.place h
  where
    fits : (p : Place) → ForSome (place_square p) IsNarrow → FitsPlace p
    fits Gone h = tt
    fits (At x y) h = h (record { x = x; y = y }) refl

fitting_men : (men : List Man) → AllByRecursion IsNarrowMan men → AllByRecursion (λ m. FitsPlace m.place) men
fitting_men [] h = tt
fitting_men (m ∷ men) h = (fitting_man m h.0, fitting_men men h.1)

module _ (version : Version) (c : Claim) (h : HasFile version c) where
  start : Start
  start = record { version = version; winner = c.winner; moves = c.moves; position = c.position }

  -- where the bytes of the sets are read as the sets, so are all bytes
  file_again : (back : List ℕ) → Again (each (map (λ (s : ClaimedSet). (s.ply, s.mask)) c.sets) (chart_layout version c.position)) back (map chart_of c.sets)
      → File (start_bytes version c.winner c.position c.moves ++ back) (Ok (charts_of c))
  unfolding start charts_layout
  file_again back sets =
      let front = start_bytes version c.winner c.position c.moves in
      let at = 0 + length front in
      let made = charts_of c in
      let first = start_again version c.winner c.position c.moves h.fits h.moves h.least (fitting_men c.position.men (recursion_from_All IsNarrowMan c.position.men h.narrow)) in
      let placed : Again (sets_layout start) back (map chart_of c.sets) =
      subst (λ ps. Again (each ps (chart_layout version c.position)) back (map chart_of c.sets)) h.places sets in
      let all = then_again (sets_layout start) (λ sets. Give (charts_with start sets)) back [] (map chart_of c.sets) made placed (give_again made) in
      let read : taken (charts_layout start) at back ≡ Ok (made, record { at = at + length (back ++ []); bytes = [] }) =
      ap (taken (charts_layout start) at) (sym (append-nil back) ∙ sym (append-nil (back ++ []))) ∙ all.read at [] in
      let whole = came (charts_layout start) IsFileEnd at back made (record { at = at + length (back ++ []); bytes = [] }) (Ok made) read (ends_whole made (at + length (back ++ [])) [] refl) in
      came start_layout GoesOn 0 (front ++ back) start (record { at = at; bytes = back }) (Ok made) (first.read 0 back) (inr (h.sound, whole))

written_by : (version : Version) (c : Claim) (bytes : List ℕ) → HasFile version c → IsBytesOf version c bytes → length bytes ≤ most_bytes → File bytes (Ok (charts_of c))
unfolding written_dense written_shared
written_by versions.Dense c bytes h is short = rw is (file_again versions.Dense c h (flat_map set_bytes c.sets) (dense_charts c.position c.sets h.sets))
written_by versions.Shared c bytes h is short =
    let start = start_bytes versions.Shared c.winner c.position c.moves in
    let sets = shared_sets_bytes c.sets is.tables in
    let size : length bytes ≡ length start + length sets = ap length is.bytes_are ∙ length-append start sets in
    rw is.bytes_are (file_again versions.Shared c h sets (shared_charts c.position c.sets is.tables h.sets is.are (omega (arith, size, short))))

pub written_is_read : WrittenIsRead
written_is_read = written_by
