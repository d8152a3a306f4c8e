-- The file of what is kept: there is one, it is that of a solved position, and it is read as a claim that is won.
use Rattle.std.proofs.Common.{◌≡◌, ◌↔◌, ℕ, List, length, Option, All, sym, ap, ◌∙◌, subst}
use Rattle.std.specs.Prelude.{IsSomeAnd}
use Rattle.std.proofs.lemmas.List.Elements.{All-contains, All-weaker}
use Rattle.track_word.specs.declared.tracks.Var.{Var}
use Rattle.track_word.specs.Tracks.{values_at, word_values}
use Rattle.track_word.specs.Word.{IsWord}
use Rattle.auto_core.specs.Automaton.{Automaton, Accepts}
use Rattle.auto_core.specs.Integers.{DecidesIntegers}
use Rattle.auto_reduce.specs.Tables.{AcceptSameWords}
use Rattle.formula_auto.proofs.Atoms.{accepted-values}
use Rattle.formula_auto.proofs.Projections.{apart-ascending}
use Rattle.game_rules.specs.Game.{Position, Value}
use Rattle.game_rules.specs.declared.men.Side.{Side}
use Rattle.rule_formula.specs.Mean.{mask_tracks}
use Rattle.mate_plan.specs.Claim.{Claim, ClaimedSet, IsClaim}
use Rattle.winning_sets.specs.Kept.{Kept}
use Rattle.winning_sets.specs.Solve.{HasTuplesOf, IsSolution, IsTupleOf, Solution}
use Rattle.mate_plan.specs.SameClaim.{IsSameSet}
use Rattle.claim_plan.specs.WonLaws.{IsOfKept}
use Rattle.claim_plan.proofs.CheckLaws.{kept_claim_is_won}
use Rattle.claim_plan.proofs.SameClaims.{same_claims_are_checked_alike}
use Rattle.claim_plan.proofs.SameSets.{IsAccepted-same, decides-same}
use Rattle.strategy_file.specs.Claims.{claim_with}
use Rattle.strategy_writer.specs.KeptFile.{IsKeptClaim, IsKeptSetOf}
use Rattle.strategy_writer.specs.Laws.{FileIsKept, KeptFileIsClaim, OneKeptFile}
use Rattle.strategy_writer.specs.SolvedFile.{IsClaimOf, IsOfKeptSet}
use Rattle.strategy_file.specs.StrategyFile.{charts_of}
use Rattle.strategy_writer.proofs.AlikeFiles.{AreAlike, AreAlikeClaims, alike_by_words, bytes_alike, length_alike, lengths_alike, sets_alike}
use Rattle.strategy_writer.proofs.LargestSets.{few_alike, formed_few, most_alike, too_many}
use Rattle.strategy_file.proofs.FileClaims.{IsFound, file_is_claim, found_in, place_of}
use Rattle.strategy_file.proofs.SameReads.{read_is_same}
use Rattle.strategy_writer.proofs.WrittenLemmas.{written_is_read}

-- ---- what is kept has one file

module _ (winner : Side) (p : Position) (moves : ℕ) where
  -- a word is accepted just if its values are the coordinates of what is kept
  kept_words : {x : ClaimedSet} → IsKeptSetOf winner p moves x → {word : List ℕ} → IsWord (length x.set.tracks) word
      → Accepts x.set word ↔ IsTupleOf (Kept winner p moves x.ply) x.mask (values_at x.set.tracks (word_values x.set.tracks word))
  kept_words {x} hx {word} is =
      let values = values_at x.set.tracks (word_values x.set.tracks word) in
      let here = accepted-values hx.integers (apart-ascending x.set.tracks hx.in_order.valid.ascending) is in
      let there = hx.tuples.same values in
      (λ h. there.0 (here.0 h), λ h. here.1 (there.1 h))

  same_tracks : {x y : ClaimedSet} → place_of x ≡ place_of y → IsKeptSetOf winner p moves x → IsKeptSetOf winner p moves y → x.set.tracks ≡ y.set.tracks
  same_tracks place hx hy = hx.tracks ∙ ap (λ (q : ℕ × ℕ). mask_tracks p q.1) place ∙ sym hy.tracks

  -- two sets of what is kept at one place accept the same words
  same_words : {x y : ClaimedSet} → place_of x ≡ place_of y → IsKeptSetOf winner p moves x → IsKeptSetOf winner p moves y → AcceptSameWords x.set y.set
  same_words {x} {y} place hx hy = record {
    same = λ word is.
        let tracks = same_tracks place hx hy in
        let left = kept_words hx is in
        let right = kept_words hy (subst (λ (ts : List Var). IsWord (length ts) word) tracks is) in
        let At : List Var → ℕ × ℕ → Type 0 = λ ts q. IsTupleOf (Kept winner p moves q.0) q.1 (values_at ts (word_values ts word)) in
        let over : At x.set.tracks (place_of x) → At y.set.tracks (place_of y) = λ h. subst (At y.set.tracks) place (subst (λ ts. At ts (place_of x)) tracks h) in
        let back : At y.set.tracks (place_of y) → At x.set.tracks (place_of x) = λ h. subst (λ ts. At ts (place_of x)) (sym tracks) (subst (At y.set.tracks) (sym place) h) in
        (λ h. right.1 (over (left.0 h)), λ h. left.1 (back (right.0 h)));
  }

  same_set : (x y : ClaimedSet) → place_of x ≡ place_of y → IsKeptSetOf winner p moves x → IsKeptSetOf winner p moves y → AreAlike x y
  same_set x y place hx hy = alike_by_words place (same_tracks place hx hy) hx.in_order hy.in_order (same_words place hx hy)

  same_claim : {c d : Claim} → IsKeptClaim winner p moves c → IsKeptClaim winner p moves d → AreAlikeClaims c d
  same_claim {c} {d} hc hd = record {
    position = hc.position_is ∙ sym hd.position_is;
    winner = hc.winner_is ∙ sym hd.winner_is;
    moves = hc.moves_are ∙ sym hd.moves_are;
    sets = sets_alike (IsKeptSetOf winner p moves) same_set c.sets d.sets (hc.places ∙ sym hd.places) hc.sets hd.sets;
  }

pub one_kept_file : OneKeptFile
one_kept_file = λ version winner p moves. record {
  one_file = λ a b ha hb. bytes_alike version (same_claim winner p moves ha.kept hb.kept) ha.bytes_are hb.bytes_are;
  one_size = λ a b ha hb. lengths_alike version (same_claim winner p moves ha.kept hb.kept) ha.size_is hb.size_is;
  same_size = λ bytes size h large. length_alike version bytes (same_claim winner p moves h.kept large.kept) h.bytes_are large.size_is;
  one_set = λ a b ha hb. most_alike (same_claim winner p moves ha.kept hb.kept) (same_claim winner p moves hb.kept ha.kept) ha.most hb.most;
  no_file = λ bytes states h large.
      let few = few_alike (same_claim winner p moves large.kept h.kept) (formed_few h.claim h.has_file) in
      too_many few large.most large.large;
  no_size = λ size states h large. too_many (few_alike (same_claim winner p moves large.kept h.kept) h.few) large.most large.large;
}

-- ---- it is that of a solved position

module _ (s : Solution) (valid : IsSolution s) where
  kept_set_of : (x : ClaimedSet) → IsOfKeptSet s x → IsKeptSetOf s.winner s.position s.moves x
  kept_set_of x h =
      let formed = valid.kept.formed x.ply x.mask h.kept h.is_there in
      let (within, game) = valid.kept.only x.ply x.mask h.kept h.is_there in
      let Has : Automaton → Type 0 = HasTuplesOf (Kept s.winner s.position s.moves x.ply) x.mask in
      let has : Has h.kept = subst (λ (o : Option Automaton). IsSomeAnd o Has) h.is_there (valid.kept.found x.ply x.mask within game) in
      let same : IsSameSet x.set h.kept = record { tracks = h.tracks; words = h.words } in
      record {
        tracks = h.tracks ∙ formed.tracks;
        integers = (decides-same same).1 formed.integers;
        tuples = record {
          same = λ tuple.
              let accepted = IsAccepted-same tuple same in
              let is = has.same tuple in
              (λ a. is.0 (accepted.0 a), λ t. accepted.1 (is.1 t));
        };
        in_order = h.in_order;
      }

  kept_claim_of : {c : Claim} → IsClaimOf s c → IsKeptClaim s.winner s.position s.moves c
  kept_claim_of {c} h = record {
    position_is = h.position;
    winner_is = h.winner;
    moves_are = h.moves;
    places = h.places;
    sets = All-weaker (IsOfKeptSet s) (IsKeptSetOf s.winner s.position s.moves) kept_set_of c.sets h.sets;
  }

pub file_is_kept : FileIsKept
file_is_kept = λ version s valid. record {
  file = λ bytes h. record { claim = h.claim; kept = kept_claim_of s valid h.of; has_file = h.has_file; bytes_are = h.bytes_are };
  size = λ size h. record { claim = h.claim; kept = kept_claim_of s valid h.of; few = h.few; size_is = h.size_is; large = h.large };
  set = λ states h. record { claim = h.claim; kept = kept_claim_of s valid h.of; most = h.most; large = h.large };
}

-- ---- it is read as a claim that is won

module _ (c : Claim) (sets : All (IsKeptSetOf c.winner c.position c.moves) c.sets) where
  of_kept : IsOfKept c
  of_kept ply mask a is =
      let f : IsFound c.sets ply mask a = found_in c.sets ply mask a is in
      let h = All-contains (IsKeptSetOf c.winner c.position c.moves) c.sets f.claimed sets f.has in
      let Has : ℕ → ℕ → Automaton → Type 0 = λ j m b. HasTuplesOf (Kept c.winner c.position c.moves j) m b in
      let at_ply = subst (λ j. Has j f.claimed.mask f.claimed.set) f.ply_is h.tuples in
      let at_mask = subst (λ m. Has ply m f.claimed.set) f.mask_is at_ply in
      record { sign = subst DecidesIntegers f.set_is h.integers; kept = subst (Has ply mask) f.set_is at_mask }

pub kept_file_is_claim : KeptFileIsClaim
kept_file_is_claim = λ version winner p moves bytes sound value short h.
    let c : Claim = h.claim in
    let sets : All (IsKeptSetOf c.winner c.position c.moves) c.sets = rw (h.kept.winner_is, h.kept.position_is, h.kept.moves_are) h.kept.sets in
    let here : Value c.winner c.moves c.position = rw (h.kept.winner_is, h.kept.position_is, h.kept.moves_are) value in
    let is : IsClaim c = file_is_claim version c h.has_file in
    let alike = same_claims_are_checked_alike c (claim_with (charts_of c)) (read_is_same c) in
    record {
      charts = charts_of c;
      read = written_is_read version c bytes h.has_file h.bytes_are short;
      position_is = h.kept.position_is;
      winner_is = h.kept.winner_is;
      moves_are = h.kept.moves_are;
      claim = alike.claims.0 is;
      won = alike.won.0 (kept_claim_is_won c is (of_kept c sets) here);
    }
