-- What is told of a ray is one text, or one step.
use Rattle.std.proofs.Common.{◌≡◌, ◌≢◌, ◌↔◌, ℕ, List, [], ◌++◌, Result, Ok, Err, Some, inl, inr, ℤ, refl, sym, ap, subst, ◌∙◌}
use Rattle.std.specs.Prelude.{codes}
use Rattle.std.specs.Fmt.{decimal}
use Rattle.std.proofs.lemmas.Option.{same_Some}
use Rattle.auto_core.specs.Automaton.{Automaton}
use Rattle.auto_core.specs.Integers.{IsAccepted}
use Rattle.auto_numbers.specs.Numbers.{Has}
use Rattle.first_distances.specs.FirstSet.{IsFirstSet, IsRayError, RayStaysWithin}
use Rattle.first_distances.proofs.LawLemmas.{no_error_within, one_first_set, one_ray_error}
use Rattle.formula_auto.specs.declared.errors.CompileError.TheVariants as compile_error
use Rattle.game_rules.specs.Game.{Position}
use Rattle.game_rules.specs.Rays.{ray_of}
use Rattle.game_rules.specs.declared.men.Man.{Man}
use Rattle.game_rules.specs.declared.men.Ray.{Ray}
use Rattle.game_rules.specs.declared.men.Side.{Side}
use Rattle.winner_session.specs.Firsts.{NoFirsts}
use Rattle.move_choice.specs.Aims.{IsMover}
use Rattle.period_sets.proofs.Exclusion.{no-error-beside, one-error}
use Rattle.period_sets.proofs.Ones.{one-description}
use Rattle.period_sets.specs.Description.{IsPeriodError}
use Rattle.period_sets.specs.Laws.{SaysTheSame}
use Rattle.period_sets.specs.Question.{IsFirstPast}
use Rattle.period_sets.specs.declared.errors.PeriodError.{PeriodError}
use Rattle.period_sets.specs.declared.errors.PeriodError.TheVariants as why
use Rattle.period_sets.specs.declared.periodic.Periodic.{Periodic}
use Rattle.desk_describe.specs.Describe.{IsDescribed, IsFirstOver, IsRayLine, IsSetWithin, RayTells, StopsAt, Told}
use Rattle.desk_describe.specs.Description.{IsDescription, description_text, listed, periodic_text, ray_line, rests_in, run_text}
use Rattle.desk_describe.specs.declared.description.Description.{Description}
use Rattle.desk_describe.specs.declared.description.Description.TheVariants as tells
use Rattle.desk_describe.specs.declared.ray_step.RayPart.{RayPart}
use Rattle.desk_describe.specs.declared.ray_step.RayPart.TheVariants.{Line, Period}
use Rattle.desk_describe.specs.declared.ray_step.RayStep.{RayStep}
use Rattle.desk_describe.proofs.Alike.{description_alike, first_past_alike}

-- descriptions that say the same have one text
same_periodic : (p q : Periodic) → SaysTheSame p q → periodic_text p ≡ periodic_text q
same_periodic p q same =
    ap (λ runs. codes "runs " ++ listed run_text runs ++ codes " from " ++ decimal p.from ++ codes " every " ++ decimal p.period ++ codes " rests " ++ listed decimal (rests_in p.rests p.period)) same.runs
    ∙ ap (λ from. codes "runs " ++ listed run_text q.runs.items ++ codes " from " ++ decimal from ++ codes " every " ++ decimal p.period ++ codes " rests " ++ listed decimal (rests_in p.rests p.period)) same.from
    ∙ ap (λ period. codes "runs " ++ listed run_text q.runs.items ++ codes " from " ++ decimal q.from ++ codes " every " ++ decimal period ++ codes " rests " ++ listed decimal (rests_in p.rests period)) same.period
    ∙ ap (λ rests. codes "runs " ++ listed run_text q.runs.items ++ codes " from " ++ decimal q.from ++ codes " every " ++ decimal q.period ++ codes " rests " ++ listed decimal (rests_in rests q.period)) same.rests

-- why a set is not described, where it is said
module _ (a : Automaton) (budget : ℕ) where
  beside : (p : Periodic) (error : PeriodError) → error ≢ why.Memory → IsDescription a budget (tells.Repeats p) → IsPeriodError a budget error → ⊥
  beside p error not is also = not (no-error-beside a budget p error is.0 is.1 also)

  apart : (one other : PeriodError) → one ≢ why.Memory → other ≢ why.Memory → one ≢ other → IsPeriodError a budget one → IsPeriodError a budget other → ⊥
  apart one other not not' differ is also = differ (one-error a budget one other not not' is also)

  pub description_once : (d e : Description) → IsDescription a budget d → IsDescription a budget e → description_text d ≡ description_text e
  description_once (tells.Repeats p) (tells.Repeats q) h j = same_periodic p q (one-description (Has a) p q h.0 j.0)
  description_once (tells.Repeats p) tells.NoPeriod h j = absurd (beside p why.NoPeriod (λ e. cc) h j)
  description_once (tells.Repeats p) tells.Far h j = absurd (beside p why.Far (λ e. cc) h j)
  description_once (tells.Repeats p) tells.Many h j = absurd (beside p why.Many (λ e. cc) h j)
  description_once tells.NoPeriod (tells.Repeats q) h j = absurd (beside q why.NoPeriod (λ e. cc) j h)
  description_once tells.NoPeriod tells.NoPeriod h j = refl
  description_once tells.NoPeriod tells.Far h j = absurd (apart why.NoPeriod why.Far (λ e. cc) (λ e. cc) (λ e. cc) h j)
  description_once tells.NoPeriod tells.Many h j = absurd (apart why.NoPeriod why.Many (λ e. cc) (λ e. cc) (λ e. cc) h j)
  description_once tells.Far (tells.Repeats q) h j = absurd (beside q why.Far (λ e. cc) j h)
  description_once tells.Far tells.NoPeriod h j = absurd (apart why.Far why.NoPeriod (λ e. cc) (λ e. cc) (λ e. cc) h j)
  description_once tells.Far tells.Far h j = refl
  description_once tells.Far tells.Many h j = absurd (apart why.Far why.Many (λ e. cc) (λ e. cc) (λ e. cc) h j)
  description_once tells.Many (tells.Repeats q) h j = absurd (beside q why.Many (λ e. cc) j h)
  description_once tells.Many tells.NoPeriod h j = absurd (apart why.Many why.NoPeriod (λ e. cc) (λ e. cc) (λ e. cc) h j)
  description_once tells.Many tells.Far h j = absurd (apart why.Many why.Far (λ e. cc) (λ e. cc) (λ e. cc) h j)
  description_once tells.Many tells.Many h j = refl

  -- and no step by which periods are tried exceeds the budget
  pub described_past : (d : Description) (at : ℕ) → IsDescription a budget d → IsFirstPast (Has a) a budget at → ⊥
  described_past (tells.Repeats p) at h past = beside p (why.Over at) (λ e. cc) h past
  described_past tells.NoPeriod at h past = apart why.NoPeriod (why.Over at) (λ e. cc) (λ e. cc) (λ e. cc) h past
  described_past tells.Far at h past = apart why.Far (why.Over at) (λ e. cc) (λ e. cc) (λ e. cc) h past
  described_past tells.Many at h past = apart why.Many (why.Over at) (λ e. cc) (λ e. cc) (λ e. cc) h past

  pub past_once : (at also : ℕ) → IsFirstPast (Has a) a budget at → IsFirstPast (Has a) a budget also → at ≡ also
  past_once at also h j = same_over (one-error a budget (why.Over at) (why.Over also) (λ e. cc) (λ e. cc) h j)
    where
      same_over : why.Over at ≡ why.Over also → at ≡ also
      same_over e = cc

-- a man's ray of a number is one
mover_once : {p : Position} {man ray : ℕ} {r s : Ray} → IsMover p man ray r → IsMover p man ray s → r ≡ s
mover_once {p} {man} {ray} {r} {s} a b =
    let same = same_Some a.man b.man (sym a.is_man ∙ b.is_man) in
    same_Some r s (sym a.is_ray ∙ ap (λ (him : Man). ray_of him.kind him.side ray) same ∙ b.is_ray)

same_step : (x y : RayStep) → x.man ≡ y.man → x.ray ≡ y.ray → x.part ≡ y.part → x.at ≡ y.at → x ≡ y
same_step x y man ray part at = λ i. record { man = man i; ray = ray i; part = part i; at = at i }

module _ (budget : ℕ) (winner : Side) (n : ℕ) (p : Position) (man ray : ℕ) where
  -- two automata of the ray's distances have the same tuples
  tuples : {a b : Automaton} → IsSetWithin budget winner n p man ray a → IsSetWithin budget winner n p man ray b → (tuple : List ℤ) → IsAccepted a tuple ↔ IsAccepted b tuple
  tuples h j = one_first_set winner n p man ray _ _ h.firsts j.firsts

  described_once : (d e : Description) → IsDescribed budget winner n p man ray d → IsDescribed budget winner n p man ray e → description_text d ≡ description_text e
  described_once d e (a, set, h) (b, other, j) = description_once b budget d e (description_alike (tuples set other) budget d h) j

  line_once : (x y : List ℕ) → IsRayLine budget winner n p man ray x → IsRayLine budget winner n p man ray y → x ≡ y
  line_once x y (r, d, mover, is, says) (s, e, also, so, tell) =
      let same : r ≡ s = mover_once mover also in
      let text : description_text d ≡ description_text e = described_once d e is so in
      says ∙ ap (λ (step : Ray). ray_line man step d) same ∙ with_text s d e text ∙ sym tell
    where
      with_text : (step : Ray) (d e : Description) → description_text d ≡ description_text e → ray_line man step d ≡ ray_line man step e
      with_text step d e same = cc

  within_over : (at : ℕ) → RayStaysWithin winner n p man ray budget → IsRayError winner n p man ray budget (compile_error.Over at) → ⊥
  within_over at within over = let e = no_error_within winner n p man ray budget (compile_error.Over at) within over in cc

  over_once : (part other : RayPart) (at also : ℕ) → IsFirstOver budget winner n p man ray part at → IsFirstOver budget winner n p man ray other also → (part ≡ other) × (at ≡ also)
  over_once Line Line at also h j = (refl, same_over (one_ray_error winner n p man ray budget (compile_error.Over at) (compile_error.Over also) (λ e. cc) (λ e. cc) h j))
    where
      same_over : compile_error.Over at ≡ compile_error.Over also → at ≡ also
      same_over e = cc
  over_once Line Period at also h (b, set, past) = absurd (within_over at set.within h)
  over_once Period Line at also (a, set, past) j = absurd (within_over also set.within j)
  over_once Period Period at also (a, set, past) (b, other, more) = (refl, past_once b budget at also (first_past_alike (tuples set other) budget at past) more)

  stop_once : (x y : RayStep) → StopsAt budget winner n p man ray x → StopsAt budget winner n p man ray y → x ≡ y
  stop_once x y h j =
      let over = over_once x.part y.part x.at y.at h.over j.over in
      same_step x y (h.man_is ∙ sym j.man_is) (h.ray_is ∙ sym j.ray_is) over.0 over.1

  line_over : (d : Description) (part : RayPart) (at : ℕ) → IsDescribed budget winner n p man ray d → IsFirstOver budget winner n p man ray part at → ⊥
  line_over d Line at (a, set, h) over = within_over at set.within over
  line_over d Period at (a, set, h) (b, other, past) = described_past b budget d at (description_alike (tuples set other) budget d h) past

  pub ray_once : (one other : Told) → RayTells budget winner n p man ray one → RayTells budget winner n p man ray other → one ≡ other
  ray_once (Ok x) (Ok y) (inl (none, is)) (inl (also, so)) = ap Ok (is ∙ sym so)
  ray_once (Ok x) (Ok y) (inl (none, is)) (inr (some, line)) = absurd (some none)
  ray_once (Ok x) (Ok y) (inr (some, line)) (inl (none, is)) = absurd (some none)
  ray_once (Ok x) (Ok y) (inr (some, line)) (inr (also, other)) = ap Ok (line_once x y line other)
  ray_once (Ok x) (Err step) (inl (none, is)) (some, stop) = absurd (some none)
  ray_once (Ok x) (Err step) (inr (some, line)) (also, stop) = absurd (line_over line.1 step.part step.at line.3 stop.over)
  ray_once (Err step) (Ok y) (some, stop) (inl (none, is)) = absurd (some none)
  ray_once (Err step) (Ok y) (some, stop) (inr (also, line)) = absurd (line_over line.1 step.part step.at line.3 stop.over)
  ray_once (Err x) (Err y) (some, stop) (also, other) = ap Err (stop_once x y stop other)
