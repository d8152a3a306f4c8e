-- What is read of a file is a claim.
use Rattle.std.proofs.Common.{◌≡◌, ℕ, zero, suc, ◌≤◌, Bool, true, false, List, [], ◌∷◌, length, map, Option, Some, None, Result, Ok, Err, inl, inr, refl, sym, ◌∙◌, ap, subst}
use Rattle.std.specs.Prelude.{◌&&◌, Contains, MatchOption, if◌then◌else◌, nat_le}
use Rattle.std.specs.List.{All}
use Rattle.std.proofs.lemmas.Bool.{and_parts, leb-true}
use Rattle.std.proofs.lemmas.List.Elements.{All-contains, All-nil, All-cons}
use Rattle.auto_core.specs.Automaton.{Automaton}
use Rattle.game_rules.specs.Game.{Position, SoundWithKings}
use Rattle.mate_plan.specs.Claim.{Claim, ClaimedSet, IsClaim}
use Rattle.rule_formula.specs.Mean.{mask_tracks}
use Rattle.strategy_file.proofs.FileClaims.{found_in, place_of, at_place, is_some_in}
use Rattle.strategy_file.proofs.Greatest.{few_men}
use Rattle.strategy_file.proofs.LosersPlies.{places_of-are}
use Rattle.strategy_file.specs.Claims.{claim_with, set_with}
use Rattle.strategy_file.specs.Layout.{IsFileEnd, Give, Layout, Read, Reads, Refusal, bind, each, repeated}
use Rattle.strategy_file.specs.Men.{Start, man_layout, start_layout, start_with}
use Rattle.strategy_file.specs.StrategyFile.{Chart, Charts, File, GoesOn, chart_layout, chart_with, charts_layout, charts_with, places_of, sets_layout}
use Rattle.strategy_file.specs.Tables.{Table, table_layout}
use Rattle.strategy_file.specs.Versions.{most_kind, most_men, version_of}
use Rattle.strategy_file.specs.declared.version.Version.{Version}
use Rattle.strategy_file.specs.declared.refusal.ByteWhy.{ByteWhy}

-- the value is one that the layout gives of some numbers, each of which may stand in its field
abbrev CanGive : {A : Type 0} → Layout A → A → Type 0
CanGive (Give a) x = x ≡ a
CanGive (Read field next) x = (n : ℕ) × (field.wrong n ≡ None) × CanGive (next n) x

no_refusal : {B : Type 0} (b : B) (refusal : Refusal) → Ok b ≡ Err refusal → ⊥
no_refusal b refusal e = cc

module _ {A B : Type 0} where
  -- what is read whole is such a value
  record IsReadWhole (l : Layout A) (after : A → ℕ → List ℕ → Result B Refusal → Type 0) (b : B) : Type 0 where
    value : A
    given : CanGive l value
    at : ℕ
    bytes : List ℕ
    goes_on : after value at bytes (Ok b)

  module _ (after : A → ℕ → List ℕ → Result B Refusal → Type 0) (b : B) where
    read_field : (wrong : Option ByteWhy) (Next : Type 0) (Stop : ByteWhy → Type 0) → ((why : ByteWhy) → Stop why → ⊥) → MatchOption wrong Next Stop → (wrong ≡ None) × Next
    read_field None Next Stop never h = (refl, h)
    read_field (Some why) Next Stop never h = absurd (never why h)

    read_whole : (l : Layout A) (at : ℕ) (bytes : List ℕ) → Reads l after at bytes (Ok b) → IsReadWhole l after b
    read_whole (Give a) at bytes h = record { value = a; given = refl; at = at; bytes = bytes; goes_on = h }
    read_whole (Read field next) at bytes (inl (short, e)) = absurd (no_refusal b _ e)
    read_whole (Read field next) at bytes (inr (n, rest, stands, h)) =
        let fits = read_field (field.wrong n) _ _ (λ why e. no_refusal b _ e) h in
        let later = read_whole (next n) _ rest fits.1 in
        record { value = later.value; given = (n, fits.0, later.given); at = later.at; bytes = later.bytes; goes_on = later.goes_on }

  -- a value of two layouts in turn
  record InTurn (l : Layout A) (f : A → Layout B) (b : B) : Type 0 where
    first : A
    given : CanGive l first
    then_given : CanGive (f first) b

  in_turn : (l : Layout A) (f : A → Layout B) (b : B) → CanGive (bind l f) b → InTurn l f b
  in_turn (Give a) f b h = record { first = a; given = refl; then_given = h }
  in_turn (Read field next) f b (n, fits, h) =
      let later = in_turn (next n) f b h in record { first = later.first; given = (n, fits, later.given); then_given = later.then_given }

so_many : {A : Type 0} (count : ℕ) (l : Layout A) (xs : List A) → CanGive (repeated count l) xs → length xs ≡ count
so_many zero l xs h = ap length h
so_many {A} (suc count) l xs h =
    let one = in_turn l (λ x. bind (repeated count l) (λ rest. Give (x ∷ rest))) xs h in
    let rest = in_turn (repeated count l) (λ more. Give (one.first ∷ more)) xs one.then_given in
    ap length rest.then_given ∙ ap suc (so_many count l rest.first rest.given)

within : (low high n : ℕ) (why : ByteWhy) → (if nat_le low n && nat_le n high then None else Some why) ≡ None → n ≤ high
within low high n why h = below_by (nat_le low n && nat_le n high) refl h
  where
    below_by : (b : Bool) → (nat_le low n && nat_le n high) ≡ b → (if b then None else Some why) ≡ None → n ≤ high
    below_by true e h = leb-true n high (and_parts (nat_le low n) (nat_le n high) e).1
    below_by false e h = absurd cc

start_few : (start : Start) → CanGive start_layout start → length start.position.men ≤ 8
unfolding start_layout
start_few start (magic, magic_fits, (version, version_fits, (moves, moves_fit, (turn, turn_fits, (count, count_fits, h))))) =
    let is = version_of version in
    let man = man_layout (most_kind is) in
    let men = in_turn (repeated count man) (λ men. Give (start_with is moves turn men)) start h in
    let P : ℕ → Type 0 = λ n. n ≤ 8 in
    subst P (sym (ap (λ s. length s.position.men) men.then_given ∙ so_many count man men.first men.given)) (few_men is count (within 2 (most_men is) count _ count_fits))

-- each chart of a place is that of the place
module _ (p : Position) where
  chart_is : (version : Version) (place : ℕ × ℕ) (x : Chart) → CanGive (chart_layout version p place) x → (table : Table) × (x ≡ chart_with p place table)
  unfolding chart_layout
  chart_is version place x (ply, ply_fits, (mask, mask_fits, h)) =
      let table = in_turn (table_layout version (length (mask_tracks p place.1))) (λ t. Give (chart_with p place t)) x h in (table.first, table.then_given)

  -- a set over the tracks of its mask's men
  abbrev IsOver : ClaimedSet → Type 0
  IsOver s = s.set.tracks ≡ mask_tracks p s.mask

  record AreAt (places : List (ℕ × ℕ)) (xs : List Chart) : Type 0 where
    places_are : map place_of (map set_with xs) ≡ places
    over : All IsOver (map set_with xs)

  are_at : (version : Version) (places : List (ℕ × ℕ)) (xs : List Chart) → CanGive (each places (chart_layout version p)) xs → AreAt places xs
  are_at version [] xs h = let P : List Chart → Type 0 = λ l. AreAt [] l in subst P (sym h) (record { places_are = refl; over = All-nil IsOver })
  are_at version (place ∷ places) xs h =
      let one = in_turn (chart_layout version p place) (λ x. bind (each places (chart_layout version p)) (λ rest. Give (x ∷ rest))) xs h in
      let rest = in_turn (each places (chart_layout version p)) (λ more. Give (one.first ∷ more)) xs one.then_given in
      let later = are_at version places rest.first rest.given in
      let chart = chart_is version place one.first one.given in
      let whole : xs ≡ chart_with p place chart.0 ∷ rest.first = rest.then_given ∙ ap (λ x. x ∷ rest.first) chart.1 in
      let P : List Chart → Type 0 = λ l. AreAt (place ∷ places) l in
      subst P (sym whole) (record {
        places_are = ap (λ l. place ∷ l) later.places_are;
        over = All-cons IsOver (set_with (chart_with p place chart.0)) (map set_with rest.first) refl later.over;
      })

-- so it is of all charts of a file
record IsRead (charts : Charts) : Type 0 where
  sound : SoundWithKings charts.position
  few : length charts.position.men ≤ 8
  places_are : map place_of (claim_with charts).sets ≡ places_of charts.winner charts.position charts.moves
  over : All (IsOver charts.position) (claim_with charts).sets

charts_read : (start : Start) (charts : Charts) → SoundWithKings start.position → length start.position.men ≤ 8 → CanGive (charts_layout start) charts → IsRead charts
unfolding charts_layout
charts_read start charts sound few h =
    let sets = in_turn (sets_layout start) (λ xs. Give (charts_with start xs)) charts h in
    let all = are_at start.position start.version (places_of start.winner start.position start.moves) sets.first sets.given in
    let P : Charts → Type 0 = λ c. IsRead c in
    subst P (sym sets.then_given) (record { sound = sound; few = few; places_are = all.places_are; over = all.over })

ends_as_given : (given charts : Charts) (at : ℕ) (bytes : List ℕ) → IsFileEnd given at bytes (Ok charts) → charts ≡ given
ends_as_given given charts at [] h = cc
ends_as_given given charts at (b ∷ bytes) h = absurd (cc)

file_read : (bytes : List ℕ) (charts : Charts) → File bytes (Ok charts) → IsRead charts
file_read bytes charts file =
    let start = read_whole GoesOn charts start_layout 0 bytes file in
    go start.value start.at start.bytes (start_few start.value start.given) start.goes_on
  where
    go : (start : Start) (at : ℕ) (rest : List ℕ) → length start.position.men ≤ 8 → GoesOn start at rest (Ok charts) → IsRead charts
    go start at rest few (inl (unsound, e)) = absurd (cc)
    go start at rest few (inr (sound, reads)) =
        let r = read_whole IsFileEnd charts (charts_layout start) at rest reads in
        let P : Charts → Type 0 = λ c. IsRead c in
        subst P (sym (ends_as_given r.value charts r.at r.bytes r.goes_on)) (charts_read start r.value sound few r.given)

module _ (charts : Charts) (h : IsRead charts) where
  abbrev c : Claim
  c = claim_with charts

  charts_claim : IsClaim c
  charts_claim = record {
    sound = h.sound.sound;
    few = h.few;
    found = λ ply mask losers game.
        is_some_in c.sets ply mask
        (subst (λ (ps : List (ℕ × ℕ)). Contains {X = ℕ × ℕ} ps (ply, mask)) (sym h.places_are)
        ((places_of-are c.winner c.position c.moves ply mask).1 (losers, game)));
    only = λ ply mask a is. at_place c h.places_are (found_in c.sets ply mask a is);
    tracks = λ ply mask a is.
        let f = found_in c.sets ply mask a is in
        let own = All-contains (IsOver c.position) c.sets f.claimed h.over f.has in
        ap (λ (x : Automaton). x.tracks) (sym f.set_is) ∙ own ∙ ap (λ m. mask_tracks c.position m) f.mask_is;
  }

pub read_is_claim : (bytes : List ℕ) (charts : Charts) → File bytes (Ok charts) → IsClaim (claim_with charts)
read_is_claim bytes charts file = charts_claim charts (file_read bytes charts file)
