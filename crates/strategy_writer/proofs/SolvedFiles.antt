-- The claim of a solved position has a file, and the position has one file.
use Rattle.std.proofs.Common.{◌≡◌, ◌↔◌, ℕ, zero, suc, ◌≤◌, List, length, get_or, Option, Some, None, All, refl, sym, ap, ◌∙◌, subst, arith}
use Rattle.std.specs.Prelude.{Contains, IsSome, IsSomeAnd}
use Rattle.std.proofs.lemmas.Option.{slice_get_within}
use Rattle.track_word.specs.declared.tracks.Var.{Var}
use Rattle.track_word.specs.Word.{IsWord}
use Rattle.auto_core.specs.Automaton.{Automaton, Accepts}
use Rattle.auto_reduce.specs.Tables.{AcceptSameWords}
use Rattle.game_rules.specs.Game.{HasBothKings, HasOneKing, Position, man_at}
use Rattle.game_rules.specs.declared.men.Man.{Man}
use Rattle.game_rules.specs.declared.men.Side.{Side}
use Rattle.game_rules.specs.declared.men.Side.TheVariants.{White, Black}
use Rattle.chess_game.specs.Near.{IsNarrowPosition}
use Rattle.mate_plan.specs.Claim.{Claim, ClaimedSet}
use Rattle.winning_sets.specs.Solve.{IsSolution, Solution, kept_at}
use Rattle.strategy_file.specs.Fitting.{FitsVersion, HasFile, IsFormed}
use Rattle.strategy_file.specs.declared.most.TheConstants.{MOST_FILED_STATES}
use Rattle.strategy_writer.specs.Files.{HasFiledSets}
use Rattle.strategy_writer.specs.Laws.{OneFile}
use Rattle.strategy_writer.specs.SolvedFile.{IsClaimOf, IsFileRefusal, IsOfKeptSet}
use Rattle.strategy_file.specs.StrategyFile.{places_of}
use Rattle.strategy_writer.specs.WriteRefusal.{IsWriteRefusal}
use Rattle.strategy_writer.specs.declared.writing.WriteFileError.{WriteFileError}
use Rattle.strategy_writer.specs.declared.writing.WriteFileError.TheVariants.{TooLarge, SetTooLarge, Memory}
use Rattle.strategy_file.specs.declared.version.Version.{Version}
use Rattle.strategy_writer.proofs.AlikeFiles.{AreAlike, AreAlikeClaims, alike_by_words, bytes_alike, sets_alike}
use Rattle.strategy_file.proofs.FileClaims.{place_of}
use Rattle.strategy_file.proofs.LosersPlies.{places_of-are}

pub pair_of : (a b : ℕ) (p : ℕ × ℕ) → a ≡ p.0 → b ≡ p.1 → (a, b) ≡ p
pair_of a b p x y = ap (λ n. (n, b)) x ∙ ap (λ n. (p.0, n)) y

one_value : {X : Type 0} (x y : X) → Some x ≡ Some y → x ≡ y
one_value x y e = cc

-- ---- a solved position has one file

module _ (s : Solution) where
  same_kept : {x y : ClaimedSet} → place_of x ≡ place_of y → (hx : IsOfKeptSet s x) (hy : IsOfKeptSet s y) → hx.kept ≡ hy.kept
  same_kept {x} {y} p hx hy =
      let there : kept_at s x.ply x.mask ≡ kept_at s y.ply y.mask = ap (λ (q : ℕ × ℕ). kept_at s q.0 q.1) p in
      one_value hx.kept hy.kept (sym hx.is_there ∙ there ∙ hy.is_there)

  same_set : (x y : ClaimedSet) → place_of x ≡ place_of y → IsOfKeptSet s x → IsOfKeptSet s y → AreAlike x y
  same_set x y p hx hy =
      let one = same_kept p hx hy in
      let tracks : x.set.tracks ≡ y.set.tracks = hx.tracks ∙ ap (λ (a : Automaton). a.tracks) one ∙ sym hy.tracks in
      let words : AcceptSameWords x.set y.set = record {
        same = λ word is.
            let there : IsWord (length y.set.tracks) word = subst (λ (ts : List Var). IsWord (length ts) word) tracks is in
            let kept : Accepts x.set word ↔ Accepts hy.kept word = subst (λ (a : Automaton). Accepts x.set word ↔ Accepts a word) one (hx.words.same word is) in
            let back = hy.words.same word there in
            (λ h. back.1 (kept.0 h), λ h. kept.1 (back.0 h));
      } in
      alike_by_words p tracks hx.in_order hy.in_order words

  same_claim : {c d : Claim} → IsClaimOf s c → IsClaimOf s d → AreAlikeClaims c d
  same_claim {c} {d} hc hd = record {
    position = hc.position ∙ sym hd.position;
    winner = hc.winner ∙ sym hd.winner;
    moves = hc.moves ∙ sym hd.moves;
    sets = sets_alike (IsOfKeptSet s) same_set c.sets d.sets (hc.places ∙ sym hd.places) hc.sets hd.sets;
  }

pub one_file : OneFile
one_file = λ version s a b fa fb. bytes_alike version (same_claim s fa.of fb.of) fa.bytes_are fb.bytes_are

-- ---- a solved position's claim has a file

-- two kings are two men
two_kings : (p : Position) (k l : ℕ) (m n : Man) → man_at p k ≡ Some m → man_at p l ≡ Some n → m.side ≡ White → n.side ≡ Black → 2 ≤ length p.men
two_kings p zero l m n is_m is_n white black = absurd cc
two_kings p (suc i) zero m n is_m is_n white black = absurd cc
two_kings p (suc zero) (suc zero) m n is_m is_n white black =
    let same : m ≡ n = one_value m n (sym is_m ∙ is_n) in
    let sides : White ≡ Black = sym white ∙ ap (λ (a : Man). a.side) same ∙ black in
    absurd cc
two_kings p (suc (suc i)) (suc j) m n is_m is_n white black = let low = slice_get_within p.men (suc i) m is_m in omega (arith, low)
two_kings p (suc zero) (suc (suc j)) m n is_m is_n white black = let low = slice_get_within p.men (suc j) n is_n in omega (arith, low)

pub two_men : (p : Position) → ((side : Side) → HasOneKing p side) → 2 ≤ length p.men
two_men p kings =
    let w = kings White in
    let b = kings Black in
    two_kings p w.number b.number w.king b.king w.is_man b.is_man w.is_king.0 b.is_king.0

module _ (s : Solution) (valid : IsSolution s) where
  formed_of : (c : ClaimedSet) → length c.set.accept ≤ MOST_FILED_STATES → IsOfKeptSet s c → IsFormed s.position c
  formed_of c few h =
      let kept = valid.kept.formed c.ply c.mask h.kept h.is_there in
      record { tracks = h.tracks ∙ kept.tracks; valid = h.in_order.valid; few = few }

  all_formed : (cs : List ClaimedSet) → All (λ (d : ClaimedSet). length d.set.accept ≤ MOST_FILED_STATES) cs → All (IsOfKeptSet s) cs → All (IsFormed s.position) cs
  all_formed cs few of k d inside = formed_of (get_or cs k d) (few k d inside) (of k d inside)

  pub claim_has_file : (version : Version) → HasBothKings s.position → FitsVersion version s.winner s.position → IsNarrowPosition s.position → (c : Claim) → IsClaimOf s c → HasFiledSets c
      → HasFile version c
  claim_has_file version kings fits narrow c h few =
      let same = sym h.position in
      record {
        fits = rw (h.winner, h.position) fits;
        sound = rw h.position (record { sound = valid.sound; kings = kings });
        moves = rw h.moves valid.moves;
        least = rw h.position (two_men s.position kings);
        narrow = rw h.position narrow;
        places = h.places ∙ rw (h.winner, h.position, h.moves) refl;
        sets = subst (λ (p : Position). All (IsFormed p) c.sets) same (all_formed c.sets few h.sets);
      }

  -- at each of the places there is a kept set
  pub kept_there : (ply mask : ℕ) → Contains {X = ℕ × ℕ} (places_of s.winner s.position s.moves) (ply, mask) → IsSome (kept_at s ply mask)
  kept_there ply mask h =
      let both = (places_of-are s.winner s.position s.moves ply mask).0 h in
      let before = both.0.before in
      some_of (kept_at s ply mask) _ (valid.kept.found ply mask (omega (arith, before)) both.1)
    where
      some_of : {X : Type 0} (o : Option X) (P : X → Type 0) → IsSomeAnd o P → IsSome o
      some_of None P h = absurd h
      some_of (Some x) P h = refl

-- why a claim is not written is why its solved position is not
pub file_refusal : (version : Version) (s : Solution) (c : Claim) → IsClaimOf s c → HasFiledSets c → (e : WriteFileError) → IsWriteRefusal version c e
    → IsFileRefusal version s e
file_refusal version s c of few (TooLarge n) h = record { claim = c; of = of; few = few; size_is = h.0; large = h.1 }
file_refusal version s c of few (SetTooLarge n) h = absurd h
file_refusal version s c of few Memory h = tt
