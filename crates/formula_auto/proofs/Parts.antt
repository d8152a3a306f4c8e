-- What a formula says of a word, by what its parts say.
use Rattle.std.proofs.Common.{◌≡◌, ◌↔◌, ℕ, List, length, sym, ap, ◌∙◌, subst, inl, inr}
use Rattle.track_word.specs.declared.tracks.Var.{Var}
use Rattle.track_word.specs.Word.{IsWord}
use Rattle.track_word.specs.Tracks.{with_vars, part_of, word_values}
use Rattle.auto_core.specs.Automaton.{Automaton, Accepts}
use Rattle.auto_bool.specs.Words.{AcceptsBoth, AcceptsEither, AcceptsFirstOnly}
use Rattle.auto_core.specs.Words.{HasSameWords}
use Rattle.lin_formula.specs.Tree.{Tree, Not, And, Or, free_vars}
use Rattle.lin_formula.specs.Holds.{Sets, Holds}
use Rattle.lin_formula.specs.Free.{IsFree}
use Rattle.lin_formula.proofs.FreeVars.{free_vars-free}
use Rattle.lin_formula.proofs.Coincide.{coincide}
use Rattle.formula_auto.specs.Step.{Says}
use Rattle.formula_auto.specs.Decides.{Decides}
use Rattle.formula_auto.proofs.Values.{val-part}
use Rattle.formula_auto.proofs.SameWords.{IsWord-part}

-- a formula says the same of a word over more tracks as of its part
pub Holds-part : (f : Tree) (e : Sets) (all : List Var) (word : List ℕ) → Holds f e (word_values all word) ↔ Says f e (part_of all (free_vars f) word)
Holds-part f e all word =
    let agree : (x : Var) → IsFree x f → word_values (free_vars f) (part_of all (free_vars f) word) x.0 ≡ word_values all word x.0 =
    λ x is. val-part all (free_vars f) x word ((free_vars-free f x).1 is) in (
      coincide f e (word_values all word) (word_values (free_vars f) (part_of all (free_vars f) word)) (λ x is. sym (agree x is)),
      coincide f e (word_values (free_vars f) (part_of all (free_vars f) word)) (word_values all word) agree,
    )

module _ (e : Sets) (f g : Tree) (a b m : Automaton) (left : Decides a f e) (right : Decides b g e) (tracks : m.tracks ≡ with_vars a.tracks b.tracks) where
  tracks_is : m.tracks ≡ with_vars (free_vars f) (free_vars g)
  tracks_is = tracks ∙ (ap (λ t. with_vars t b.tracks) left.tracks ∙ ap (λ t. with_vars (free_vars f) t) right.tracks)

  -- what an automaton of a part accepts of the part of a word
  part_says : {h : Tree} {c : Automaton} → Decides c h e → {word : List ℕ} → IsWord (length (with_vars (free_vars f) (free_vars g))) word
      → Accepts c (part_of m.tracks c.tracks word) ↔ Holds h e (word_values (with_vars (free_vars f) (free_vars g)) word)
  part_says {h} {c} decides {word} is =
      let all = with_vars (free_vars f) (free_vars g) in
      let same : part_of m.tracks c.tracks word ≡ part_of all (free_vars h) word =
      ap (λ t. part_of t c.tracks word) tracks_is ∙ ap (λ t. part_of all t word) decides.tracks in
      let holds = Holds-part h e all word in
      let says = decides.words (part_of all (free_vars h) word) (IsWord-part all (free_vars h) is) in
      (λ k. holds.1 (says.0 (subst (Accepts c) same k)), λ k. subst (Accepts c) (sym same) (says.1 (holds.0 k)))

  over_tracks : {word : List ℕ} → IsWord (length (with_vars (free_vars f) (free_vars g))) word → IsWord (length m.tracks) word
  over_tracks {word} is = subst (λ t. IsWord (length t) word) (sym tracks_is) is

  pub Decides-And : AcceptsBoth a b m → Decides m (And f g) e
  Decides-And words = record {
    tracks = tracks_is;
    words = λ word is.
        let w = words word (over_tracks is) in
        let l = part_says left is in
        let r = part_says right is in
        (λ h. let p = w.0 h in (l.0 p.0, r.0 p.1), λ h. w.1 (l.1 h.0, r.1 h.1));
  }

  pub Decides-Or : AcceptsEither a b m → Decides m (Or f g) e
  Decides-Or words = record {
    tracks = tracks_is;
    words = λ word is.
        let w = words word (over_tracks is) in
        let l = part_says left is in
        let r = part_says right is in
        (λ h. elim (w.0 h) [ inl p ↦ inl (l.0 p) | inr p ↦ inr (r.0 p) ], λ h. w.1 (elim h [ inl p ↦ inl (l.1 p) | inr p ↦ inr (r.1 p) ]));
  }

  pub Decides-AndNot : AcceptsFirstOnly a b m → Decides m (And f (Not g)) e
  Decides-AndNot words = record {
    tracks = tracks_is;
    words = λ word is.
        let w = words word (over_tracks is) in
        let l = part_says left is in
        let r = part_says right is in
        (λ h. let p = w.0 h in (l.0 p.0, λ holds. p.1 (r.1 holds)), λ h. w.1 (l.1 h.0, λ accepts. h.1 (r.0 accepts)));
  }

pub Decides-Not : {e : Sets} {f : Tree} {a : Automaton} (n : Automaton) → Decides a f e → n.tracks ≡ a.tracks
    → ((word : List ℕ) → IsWord (length a.tracks) word → Accepts n word ↔ (¬ Accepts a word)) → Decides n (Not f) e
Decides-Not n decides tracks words = record {
  tracks = tracks ∙ decides.tracks;
  words = λ word is.
      let w = words word (subst (λ t. IsWord (length t) word) (sym decides.tracks) is) in
      let s = decides.words word is in
      (λ h says. w.0 h (s.1 says), λ h. w.1 (λ accepts. h (s.0 accepts)));
}

-- the same words over the same tracks
pub Decides-same : {e : Sets} {f : Tree} {a r : Automaton} → Decides a f e → r.tracks ≡ a.tracks
    → HasSameWords a r → Decides r f e
Decides-same decides tracks words = record {
  tracks = tracks ∙ decides.tracks;
  words = λ word is.
      let w = words word (subst (λ t. IsWord (length t) word) (sym decides.tracks) is) in
      let s = decides.words word is in
      (λ h. s.0 (w.0 h), λ h. w.1 (s.1 h));
}
