-- The file that is written of a claim: there is one, and it is read as a claim of the same sets.
use Rattle.std.proofs.Common.{◌≡◌, ℕ, Bool, ◌&&◌, ◌==◌, List, [], ◌∷◌, map, length, Some, All, refl, sym, ap, ◌∙◌, subst, arith}
use Rattle.std.specs.Prelude.{if◌then◌else◌}
use Rattle.std.specs.List.{AllZip}
use Rattle.std.proofs.lemmas.List.Elements.{All-cons, All-head, All-tail}
use Rattle.track_word.specs.declared.tracks.Var.{Var}
use Rattle.track_word.specs.Word.{IsWord}
use Rattle.auto_reduce.specs.Tables.{AcceptSameWords}
use Rattle.game_rules.specs.Game.{Position}
use Rattle.rule_formula.specs.Mean.{mask_tracks}
use Rattle.mate_plan.specs.Claim.{Claim, ClaimedSet, claimed_in}
use Rattle.mate_plan.specs.SameClaim.{AreSameSets, IsSameSet}
use Rattle.strategy_file.specs.Claims.{set_with}
use Rattle.strategy_file.specs.Fitting.{HasFileOf, IsFormed}
use Rattle.strategy_writer.specs.Laws.{OneWritten, WrittenIsSame}
use Rattle.strategy_writer.specs.ReducedClaims.{IsReducedClaim, IsReducedSet}
use Rattle.strategy_file.specs.StrategyFile.{chart_of, charts_of, places_of}
use Rattle.strategy_file.specs.declared.version.Version.TheVariants as versions
use Rattle.strategy_writer.proofs.AlikeFiles.{AreAlike, AreAlikeClaims, alike_by_words, bytes_alike, length_alike, lengths_alike}
use Rattle.strategy_file.proofs.FileClaims.{place_of}
use Rattle.strategy_file.proofs.SameReads.{either, listed, same_words}
use Rattle.strategy_writer.proofs.WrittenLemmas.{written_is_read}

-- ---- there is one

place_is : {of made : ClaimedSet} → IsReducedSet of made → place_of made ≡ place_of of
place_is h = λ i. (h.ply i, h.mask i)

one_set : (of a b : ClaimedSet) → IsReducedSet of a → IsReducedSet of b → AreAlike a b
one_set of a b ha hb =
    let tracks : a.set.tracks ≡ b.set.tracks = ha.tracks ∙ sym hb.tracks in
    let words : AcceptSameWords a.set b.set = record {
      same = λ word is.
          let here = ha.words.same word is in
          let there = hb.words.same word (subst (λ (ts : List Var). IsWord (length ts) word) tracks is) in
          (λ h. there.1 (here.0 h), λ h. here.1 (there.0 h));
    } in
    alike_by_words (place_is ha ∙ sym (place_is hb)) tracks ha.in_order hb.in_order words

one_sets : (sets xs ys : List ClaimedSet) → AllZip IsReducedSet sets xs → AllZip IsReducedSet sets ys → AllZip AreAlike xs ys
one_sets [] [] [] hx hy = tt
one_sets [] (x ∷ xs) ys hx hy = absurd hx
one_sets [] [] (y ∷ ys) hx hy = absurd hy
one_sets (s ∷ sets) [] ys hx hy = absurd hx
one_sets (s ∷ sets) (x ∷ xs) [] hx hy = absurd hy
one_sets (s ∷ sets) (x ∷ xs) (y ∷ ys) hx hy = (one_set s x y hx.0 hy.0, one_sets sets xs ys hx.1 hy.1)

one_reduced : {c a b : Claim} → IsReducedClaim c a → IsReducedClaim c b → AreAlikeClaims a b
one_reduced {c} {a} {b} ha hb = record {
  position = ha.position ∙ sym hb.position;
  winner = ha.winner ∙ sym hb.winner;
  moves = ha.moves ∙ sym hb.moves;
  sets = one_sets c.sets a.sets b.sets ha.sets hb.sets;
}

pub one_written : OneWritten
one_written = λ c. record {
  one_file = λ a b ha hb. bytes_alike versions.Shared (one_reduced ha.is hb.is) ha.file hb.file;
  one_size = λ a b ha hb. lengths_alike versions.Shared (one_reduced ha.is hb.is) ha.size_is hb.size_is;
  same_size = λ bytes size h large. length_alike versions.Shared bytes (one_reduced h.is large.is) h.file large.size_is;
}

-- ---- it is read as a claim of the same sets

reduced_places : (sets made : List ClaimedSet) → AllZip IsReducedSet sets made → map place_of made ≡ map place_of sets
reduced_places [] [] h = refl
reduced_places [] (m ∷ made) h = absurd h
reduced_places (s ∷ sets) [] h = absurd h
reduced_places (s ∷ sets) (m ∷ made) h = λ i. place_is h.0 i ∷ reduced_places sets made h.1 i

reduced_formed : (p : Position) (sets made : List ClaimedSet) → AllZip IsReducedSet sets made → All (IsFormed p) sets → All (IsFormed p) made
reduced_formed p [] [] h formed = formed
reduced_formed p [] (m ∷ made) h formed = absurd h
reduced_formed p (s ∷ sets) [] h formed = absurd h
reduced_formed p (s ∷ sets) (m ∷ made) h formed =
    let is = h.0 in
    let own = All-head (IsFormed p) s sets formed in
    let few = own.few in
    let fewer = is.fewer in
    let here : IsFormed p m = record {
      tracks = is.tracks ∙ own.tracks ∙ ap (λ mask. mask_tracks p mask) (sym is.mask);
      valid = is.in_order.valid;
      few = omega (arith, few, fewer);
    } in
    All-cons (IsFormed p) m made here (reduced_formed p sets made h.1 (All-tail (IsFormed p) s sets formed))

-- the reduced claim has a file where the claim has one
reduced_has_file : {c r : Claim} → HasFileOf c → IsReducedClaim c r → HasFileOf r
reduced_has_file {c} {r} h is = record {
  fits = rw (is.winner, is.position) h.fits;
  sound = rw is.position h.sound;
  moves = rw is.moves h.moves;
  least = rw is.position h.least;
  narrow = rw is.position h.narrow;
  places = reduced_places c.sets r.sets is.sets ∙ h.places ∙ (λ i. places_of (sym is.winner i) (sym is.position i) (sym is.moves i));
  sets = subst (λ (p : Position). All (IsFormed p) r.sets) (sym is.position) (reduced_formed c.position c.sets r.sets is.sets h.sets);
}

same_set : {of made : ClaimedSet} → IsReducedSet of made → IsSameSet of.set (set_with (chart_of made)).set
unfolding listed
same_set {of} {made} h = record {
  tracks = sym h.tracks;
  words = record {
    same = λ word is.
        let here = h.words.same word (subst (λ (ts : List Var). IsWord (length ts) word) (sym h.tracks) is) in
        let read = same_words made.set word in
        (λ a. read.0 (here.1 a), λ a. here.0 (read.1 a));
  };
}

same_sets : (sets made : List ClaimedSet) → AllZip IsReducedSet sets made → (ply mask : ℕ) → AreSameSets (claimed_in sets ply mask) (claimed_in (map set_with (map chart_of made)) ply mask)
same_sets [] [] h ply mask = tt
same_sets [] (m ∷ made) h ply mask = absurd h
same_sets (s ∷ sets) [] h ply mask = absurd h
same_sets (s ∷ sets) (m ∷ made) h ply mask =
    let is = h.0 in
    let rest = claimed_in (map set_with (map chart_of made)) ply mask in
    let set = (set_with (chart_of m)).set in
    subst (λ (b : Bool). AreSameSets (claimed_in (s ∷ sets) ply mask) (if b then Some set else rest)) (λ i. (sym is.ply i == ply) && (sym is.mask i == mask))
    (either ((s.ply == ply) && (s.mask == mask)) (claimed_in sets ply mask) rest (same_set is) (same_sets sets made h.1 ply mask))

pub written_is_same : WrittenIsSame
written_is_same = λ c bytes h is short. record {
  charts = charts_of is.reduced;
  read = written_is_read versions.Shared is.reduced bytes (reduced_has_file h is.is) is.file short;
  same = record {
    position = sym is.is.position;
    winner = sym is.is.winner;
    moves = sym is.is.moves;
    sets = λ ply mask. same_sets c.sets is.reduced.sets is.is.sets ply mask;
  };
}
