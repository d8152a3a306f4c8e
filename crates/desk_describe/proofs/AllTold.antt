-- What is told of the first so many, one after another.
use Rattle.std.proofs.Common.{◌≡◌, ℕ, zero, suc, ◌+◌, ◌≤◌, List, [], ◌++◌, Result, Ok, Err, inl, inr, refl, sym, ap, subst, ◌∙◌, append_assoc, arith}
use Rattle.std.proofs.lemmas.Bool.{cases_eq}
use Rattle.std.proofs.lemmas.List.{append-nil}
use Rattle.desk_solve.specs.First.{Adds}
use Rattle.desk_describe.specs.Describe.{AllTell, Told}
use Rattle.desk_describe.specs.RayStep.{StopsWith}
use Rattle.desk_describe.specs.declared.ray_step.DescribeError.{DescribeError}
use Rattle.desk_describe.specs.declared.ray_step.DescribeError.TheVariants.{Over, Memory}
use Rattle.desk_describe.specs.declared.ray_step.RayStep.{RayStep}

-- the text that is told, if one is
abbrev pub text_in : Told → List ℕ
text_in (Ok text) = text
text_in (Err step) = []

module _ (Of : ℕ → Told → Type 0) where
  none_told : AllTell Of 0 (Ok [])
  unfolding AllTell
  none_told = refl

  one_more : (k : ℕ) (front last : List ℕ) → AllTell Of k (Ok front) → Of k (Ok last) → AllTell Of (suc k) (Ok (front ++ last))
  unfolding AllTell
  one_more k front last before here = (front, last, before, here, refl)

  stops_here : (k : ℕ) (front : List ℕ) (step : RayStep) → AllTell Of k (Ok front) → Of k (Err step) → AllTell Of (suc k) (Err step)
  unfolding AllTell
  stops_here k front step before here = inr (front, before, here)

  stopped : (k : ℕ) (step : RayStep) → AllTell Of k (Err step) → AllTell Of (suc k) (Err step)
  unfolding AllTell
  stopped k step before = inl before

  pub all_empty : ((k : ℕ) → Of k (Ok [])) → (k : ℕ) → AllTell Of k (Ok [])
  unfolding AllTell
  all_empty none zero = refl
  all_empty none (suc k) = ([], [], all_empty none k, none k, refl)

  -- a stop stays one, whatever comes behind it
  stops_before : (k n : ℕ) (step : RayStep) → k ≤ n → AllTell Of k (Err step) → AllTell Of n (Err step)
  stops_before k zero step le at = let same : k ≡ 0 = omega (arith, le) in subst (λ j. AllTell Of j (Err step)) same at
  stops_before k (suc n) step le at = elim (cases_eq k (suc n)) [
    | inl same ↦ subst (λ j. AllTell Of j (Err step)) same at
    | inr apart ↦ stopped n step (stops_before k n step (omega (arith, le, apart)) at)
  ]

  -- it is one text, or one step
  texts_once : (k : ℕ) → ((j : ℕ) (one other : Told) → Of j one → Of j other → one ≡ other) → (one other : Told) → AllTell Of k one → AllTell Of k other → one ≡ other
  unfolding AllTell
  texts_once zero once (Ok a) (Ok b) h j = ap Ok (h ∙ sym j)
  texts_once zero once (Ok a) (Err t) h j = absurd j
  texts_once zero once (Err s) other h j = absurd h
  texts_once (suc k) once (Ok a) (Ok b) (f, l, h, last, is) (g, m, j, also, so) =
      let same : f ≡ g = ap text_in (texts_once k once (Ok f) (Ok g) h j) in
      let same_last : l ≡ m = ap text_in (once k (Ok l) (Ok m) last also) in
      ap Ok (is ∙ ap (λ t. t ++ l) same ∙ ap (λ t. g ++ t) same_last ∙ sym so)
  texts_once (suc k) once (Ok a) (Err t) (f, l, h, last, is) (inl j) = absurd (let e = texts_once k once (Ok f) (Err t) h j in cc)
  texts_once (suc k) once (Ok a) (Err t) (f, l, h, last, is) (inr (g, j, also)) = absurd (let e = once k (Ok l) (Err t) last also in cc)
  texts_once (suc k) once (Err s) (Ok b) (inl h) (g, m, j, also, so) = absurd (let e = texts_once k once (Err s) (Ok g) h j in cc)
  texts_once (suc k) once (Err s) (Ok b) (inr (f, h, last)) (g, m, j, also, so) = absurd (let e = once k (Err s) (Ok m) last also in cc)
  texts_once (suc k) once (Err s) (Err t) (inl h) (inl j) = texts_once k once (Err s) (Err t) h j
  texts_once (suc k) once (Err s) (Err t) (inl h) (inr (g, j, also)) = absurd (let e = texts_once k once (Err s) (Ok g) h j in cc)
  texts_once (suc k) once (Err s) (Err t) (inr (f, h, last)) (inl j) = absurd (let e = texts_once k once (Ok f) (Err t) h j in cc)
  texts_once (suc k) once (Err s) (Err t) (inr (f, h, last)) (inr (g, j, also)) = once k (Err s) (Err t) last also

  pub told_once : ((j : ℕ) (one other : Told) → Of j one → Of j other → one ≡ other) → (k : ℕ) (one other : Told) → AllTell Of k one → AllTell Of k other → one ≡ other
  told_once once k = texts_once k once

  -- a text that is added to, and a text that stops
  abbrev Added : ℕ → List ℕ → List ℕ → Type 0
  Added k old new = Adds (λ added. AllTell Of k (Ok added)) old new

  pub adds_none : (old : List ℕ) → Added 0 old old
  adds_none old = ([], none_told, sym (append-nil old))

  pub adds_more : (k : ℕ) (old mid new : List ℕ) → Added k old mid → Adds (λ added. Of k (Ok added)) mid new → Added (k + 1) old new
  adds_more k old mid new (front, before, is) (last, here, so) =
      let next : suc k ≡ k + 1 = omega arith in (
        front ++ last,
        subst (λ n. AllTell Of n (Ok (front ++ last))) next (one_more k front last before here),
        so ∙ ap (λ t. t ++ last) is ∙ append_assoc old front last,
      )

  pub stops_more : (k n : ℕ) (old mid : List ℕ) (error : DescribeError) → suc k ≤ n → Added k old mid → StopsWith (λ step. Of k (Err step)) error
      → StopsWith (λ step. AllTell Of n (Err step)) error
  stops_more k n old mid (Over step) le (front, before, is) at = stops_before (suc k) n step le (stops_here k front step before at)
  stops_more k n old mid Memory le before at = tt
