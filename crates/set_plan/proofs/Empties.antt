-- Whether sets are empty.
use Rattle.std.proofs.Common.{◌≡◌, ℕ, ◌≤◌, List, [], ◌∷◌, ◌++◌, map, length, Option, Some, None, IfSome, slice_get, refl, sym, ◌∙◌, subst, inl, inr}
use Rattle.std.proofs.lemmas.Option.{slice_get_past}
use Rattle.track_word.specs.declared.tracks.Var.{Var}
use Rattle.track_word.specs.Word.{IsWord}
use Rattle.auto_core.specs.Automaton.{Automaton, Accepts}
use Rattle.auto_core.specs.Reduced.{AllReached}
use Rattle.formula_auto.specs.Compiled.{IsSetFor}
use Rattle.lin_formula.specs.SetOf.{SetOf, Table, IsEmpty, SomeEmpty, NoneEmpty}
use Rattle.set_plan.specs.Sets.{IsSetOn}

-- an automaton of an empty set accepts no word
pub accepts-none : (a : Automaton) → IsEmpty (Table a) → (word : List ℕ) → IsWord (length a.tracks) word → ¬ Accepts a word
accepts-none a empty word is h = empty _ (record { word = word; is_word = is; values = refl; accepts = h })

pub some-left : (e : ℕ → SetOf) (xs ys : List ℕ) → SomeEmpty (map e xs) → SomeEmpty (map e (xs ++ ys))
some-left e [] ys h = absurd h
some-left e (x ∷ xs) ys (inl empty) = inl empty
some-left e (x ∷ xs) ys (inr rest) = inr (some-left e xs ys rest)

pub some-right : (e : ℕ → SetOf) (xs ys : List ℕ) → SomeEmpty (map e ys) → SomeEmpty (map e (xs ++ ys))
some-right e [] ys h = h
some-right e (x ∷ xs) ys h = inr (some-right e xs ys h)

pub none-both : (e : ℕ → SetOf) (xs ys : List ℕ) → NoneEmpty (map e xs) → NoneEmpty (map e ys) → NoneEmpty (map e (xs ++ ys))
none-both e [] ys h k = k
none-both e (x ∷ xs) ys h k = (h.0, none-both e xs ys h.1 k)

-- the set of a name that a formula uses
pub named-reached : {sets : List Automaton} {number size : ℕ} (a : Automaton) → IsSetFor sets number size → slice_get sets number ≡ Some a → AllReached a
named-reached a fits e =
    let same : fits.set ≡ a = cc (fits.is_there, e) in
    subst AllReached same fits.reached

pub set-there : {sets : List Automaton} {number size : ℕ} → IsSetFor sets number size → length sets ≤ number → ⊥
set-there {sets} {number} fits past =
    let none : slice_get sets number ≡ None = slice_get_past sets number past in
    let never : Some fits.set ≡ None = sym fits.is_there ∙ none in
    (cc)

-- words lead to each state of a reduced automaton
pub set-reached : (tracks : List Var) (set : Option Automaton) → IfSome set (IsSetOn tracks) → IfSome set AllReached
set-reached tracks None on = tt
set-reached tracks (Some a) on = on.reduced.reached
