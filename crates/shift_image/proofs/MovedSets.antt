-- The moved set of an image has a tuple just if its set has the tuple with each shift taken back.
use Rattle.std.proofs.Common.{◌≡◌, ◌⊎◌, ◌↔◌, ℕ, ℤ, ◌+ℤ◌, List, [], ◌∷◌, map, length}
use Rattle.std.proofs.Common.{refl, sym, ap, ◌∙◌, subst, inl, inr}
use Rattle.track_word.specs.declared.tracks.Var.{Var}
use Rattle.track_word.specs.Word.{IsWord}
use Rattle.track_word.specs.Tracks.{Values, word_values, values_at}
use Rattle.auto_core.specs.Automaton.{Automaton}
use Rattle.auto_shift.specs.Moved.{WordsCanBeMoved}
use Rattle.lin_formula.specs.Tree.{Among, free_vars}
use Rattle.lin_formula.specs.Free.{IsOneOf}
use Rattle.lin_formula.specs.Holds.{Sets, Holds}
use Rattle.lin_formula.specs.SetOf.{SetOf, Table, members}
use Rattle.lin_formula.proofs.FreeVars.{free_vars-free, free_vars-ascend}
use Rattle.formula_auto.specs.Decides.{Decides}
use Rattle.formula_auto.specs.Nodes.{DecidesAmong}
use Rattle.shift_image.specs.declared.shift.ValueShift.{ValueShift}
use Rattle.shift_image.specs.Image.{Image, IsShiftable, change, step, gone, moved_var, moved_vars, moved_tree}
use Rattle.shift_image.specs.Laws.{negated, IsMovedBy}
use Rattle.formula_auto.proofs.Variables.{one_of-cases, same-ascending}
use Rattle.shift_image.proofs.Bindings.{holds-and_all, holds-ex_all}
use Rattle.shift_image.proofs.Shifts.{IsAmong, new-by, new-among, gone-among, new, new-not_gone}
use Rattle.shift_image.proofs.Shifts.{moved-cases, moved-gone, moved-vars}
use Rattle.shift_image.proofs.Changes.{change-is, all-changes, each-change, moved-tree_vars}
use Rattle.shift_image.proofs.Moving.{AreTakenBack, tracks-moved, taken-back}

values-map : (f : Var → Var) (vars : List Var) (v w : Values) → ((x : Var) → IsOneOf x vars → w x.0 ≡ v (f x).0)
    → values_at vars w ≡ values_at (map f vars) v
values-map f [] v w same = refl
values-map f (x ∷ vars) v w same =
    let first = same x (inl refl) in
    let rest = values-map f vars v w (λ y h. same y (inr h)) in
    λ i. first i ∷ rest i

module _ (i : Image) (is : IsShiftable i) where
  -- both speak of the variables of a moved member
  pub same-vars : free_vars (moved_tree i) ≡ free_vars (Among i.set (moved_vars i))
  same-vars =
      same-ascending _ _ (free_vars-ascend (moved_tree i)) (free_vars-ascend (Among i.set (moved_vars i)))
      (λ x h. (free_vars-free (Among i.set (moved_vars i)) x).1 ((moved-tree_vars is x).0 h))
      (λ x h. (moved-tree_vars is x).1 ((free_vars-free (Among i.set (moved_vars i)) x).0 h))

  new-within : (s : ValueShift) → IsAmong s i.shifts → IsOneOf s.new (free_vars (moved_tree i))
  new-within s h = (moved-tree_vars is s.new).1 ((moved-vars i is s.new).1 (inl (new-among s i.shifts h)))

  module _ (u v : Values) (back : AreTakenBack (free_vars (moved_tree i)) i.shifts u v) where
    -- a variable that stays has the same value in both
    stays-same : (x : Var) → IsOneOf x i.vars → (¬ IsOneOf x (gone i.shifts)) → v x.0 ≡ u x.0
    stays-same x h none =
        back.others x ((moved-tree_vars is x).1 ((moved-vars i is x).1 (inr (none, h))))
        (λ k. let by = new-by x i.shifts k in new i is by.shift by.among (subst (λ y. IsOneOf y i.vars) by.is h))

    -- values that are u's where nothing changes and v's where something does are those of the member
    from-member : (w : Values) → ((x : Var) → (¬ IsOneOf x (gone i.shifts)) → w x.0 ≡ u x.0)
        → ((s : ValueShift) → IsAmong s i.shifts → w s.gone.0 ≡ v s.new.0) → values_at i.vars w ≡ values_at (moved_vars i) v
    from-member w others old = values-map (moved_var i.shifts) i.vars v w (λ x h. elim (moved-cases i.shifts x) [
      | inl to ↦ ap (λ (y : Var). w y.0) to.is ∙ old to.shift to.among ∙ ap (λ (y : Var). v y.0) (sym to.moved)
      | inr (none, stays) ↦ others x none ∙ sym (stays-same x h none) ∙ ap (λ (y : Var). v y.0) (sym stays)
    ])

    -- whether the variable is one of the old ones
    abbrev GoneOrNot : Var → Type 0
    GoneOrNot x = IsOneOf x (gone i.shifts) ⊎ (¬ IsOneOf x (gone i.shifts))

    -- the values of the member, and those of u
    abbrev chosen : (x : Var) → GoneOrNot x → ℤ
    chosen x (inl h) = v (moved_var i.shifts x).0
    chosen x (inr none) = u x.0

    chosen-gone : (x : Var) (c : GoneOrNot x) → IsOneOf x (gone i.shifts) → chosen x c ≡ v (moved_var i.shifts x).0
    chosen-gone x (inl h) k = refl
    chosen-gone x (inr none) k = absurd (none k)

    chosen-other : (x : Var) (c : GoneOrNot x) → (¬ IsOneOf x (gone i.shifts)) → chosen x c ≡ u x.0
    chosen-other x (inl h) none = absurd (none h)
    chosen-other x (inr none') none = refl

    abbrev member : Values
    member n = chosen (record { 0 = n }) (one_of-cases (record { 0 = n }) (gone i.shifts))

    member-gone : (s : ValueShift) → IsAmong s i.shifts → member s.gone.0 ≡ v s.new.0
    member-gone s h =
        chosen-gone s.gone (one_of-cases s.gone (gone i.shifts)) (gone-among s i.shifts h)
        ∙ ap (λ (y : Var). v y.0) (moved-gone i is s h)

    member-other : (x : Var) → (¬ IsOneOf x (gone i.shifts)) → member x.0 ≡ u x.0
    member-other x none = chosen-other x (one_of-cases x (gone i.shifts)) none

    pub set-moved : (e : Sets) → e i.set (values_at (moved_vars i) v) ↔ Holds (moved_tree i) e u
    set-moved e = (
      λ h.
          let tuple = subst (e i.set) (sym (from-member member member-other member-gone)) h in
          let changes = λ (s : ValueShift) (k : IsAmong s i.shifts).
          let new = ap (λ n. n +ℤ negated s.by) (sym (member-other s.new (new-not_gone i is s k))) in
          (change-is s e member).1 (member-gone s k ∙ back.new s k ∙ new) in
          let all = all-changes i.shifts e member changes in
          let both = (holds-and_all (Among i.set i.vars) (map change i.shifts) e member).1 (tuple, all) in
          (holds-ex_all (gone i.shifts) (step i) e u).1 (member, member-other, both),
      λ h.
          let (w, agree, k) = (holds-ex_all (gone i.shifts) (step i) e u).0 h in
          let both = (holds-and_all (Among i.set i.vars) (map change i.shifts) e w).0 k in
          let old = λ (s : ValueShift) (l : IsAmong s i.shifts). (change-is s e w).0 (each-change i.shifts e w both.1 s l)
          ∙ ap (λ n. n +ℤ negated s.by) (agree s.new (new-not_gone i is s l)) ∙ sym (back.new s l) in
          subst (e i.set) (from-member w agree old) both.0,
    )

  pub moved-decided : WordsCanBeMoved → (e : ℕ → SetOf) (set a b : Automaton) → e i.set ≡ Table set
      → DecidesAmong set (moved_vars i) a → IsMovedBy i.shifts a b → Decides b (moved_tree i) (members e)
  moved-decided can e set a b is_set among moved =
      let decides = among e i.set is_set in
      let tracks = decides.tracks ∙ sym same-vars in
      record {
        tracks = tracks-moved i.shifts a b moved ∙ tracks;
        words = λ u word.
            let (v, back) =
            taken-back can (free_vars (moved_tree i)) i.shifts a b tracks new-within is.apart moved word in
            let there = decides.words v (subst (λ t. IsWord (length t) v) same-vars back.is_word) in
            let At : List Var → Type 0 = λ t. members e i.set (values_at (moved_vars i) (word_values t v)) in
            let says = set-moved _ _ back.values (members e) in (
              λ h. says.0 (subst At (sym same-vars) (there.0 (back.words.0 h))),
              λ h. back.words.1 (there.1 (subst At same-vars (says.1 h))),
            );
      }
