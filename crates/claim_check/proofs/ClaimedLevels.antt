-- The names of what is claimed at a ply make the level of the plan.
use Rattle.std.proofs.Common.{◌≡◌, ◌⊎◌, ℕ, ◌==◌, if◌then◌else◌, Bool, true, false, List, [], ◌∷◌, Option, Some, None, inl, inr, refl, sym, ap, ◌∙◌, subst}
use Rattle.std.specs.Prelude.{Contains, slice_get}
use Rattle.std.proofs.lemmas.Bool.{eqb-true, eq-eqb}
use Rattle.auto_core.specs.Automaton.{Automaton}
use Rattle.game_rules.specs.Game.{Position}
use Rattle.lin_formula.specs.SetOf.{Nothing, SetOf, Table, as_set}
use Rattle.lin_formula.specs.declared.formula.SetId.{SetId}
use Rattle.rule_formula.specs.Fits.{masks_of}
use Rattle.rule_formula.proofs.MasksTheorem.{masks_are}
use Rattle.set_plan.specs.Outcome.{Ends, Stops}
use Rattle.set_plan.specs.Past.{Past}
use Rattle.set_plan.specs.Program.{Entry, Give}
use Rattle.set_plan.specs.Sets.{set_at}
use Rattle.set_plan.specs.declared.stop.PartStep.{PartStep}
use Rattle.set_plan.proofs.Composition.{Ends-give, Ends-give_is, none_some}
use Rattle.set_plan.proofs.Takings.{contains_cases, contains_none}
use Rattle.mate_plan.specs.Claim.{Claim, IsClaim, claimed_at, claimed_level}
use Rattle.mate_plan.specs.Levels.{level_in}
use Rattle.mate_plan.specs.declared.names.PartName.{PartName}
use Rattle.mate_plan.specs.Plan.{Level, Program, for_masks, level_with, no_sets}

module _ (c : Claim) (ply : ℕ) where
  -- what is claimed with a mask, which takes no step
  abbrev pub given : ℕ → Program SetOf
  given mask = Give (claimed_level c ply mask)

  pub given_ends : (budget mask : ℕ) (s : SetOf) → s ≡ claimed_level c ply mask → Ends (given mask) budget s
  given_ends budget mask s is =
      let Is : SetOf → Type 0 = λ t. Ends (given mask) budget t in
      subst Is (sym is) (Ends-give budget (claimed_level c ply mask))

  -- no step passes a budget
  pub given_goes_on : (masks : List ℕ) (level : Level) (budget : ℕ) (name : PartStep PartName) → Stops (for_masks masks given level) budget name → ⊥
  given_goes_on [] level budget name h =
      let Of : List (Entry PartName) → Type 0 = λ entries. Past entries budget (Some name) in
      none_some (subst Of h.takes.0 h.past)
  given_goes_on (m ∷ masks) level budget name h = given_goes_on masks (level_with level m (claimed_level c ply m)) budget name h

  abbrev after : Level → List ℕ → Level
  after level [] = level
  after level (m ∷ masks) = after (level_with level m (claimed_level c ply m)) masks

  ends_after : (masks : List ℕ) (level : Level) {budget : ℕ} {l : Level} → Ends (for_masks masks given level) budget l → l ≡ after level masks
  ends_after [] level h = Ends-give_is level h
  ends_after (m ∷ masks) level h = ends_after masks (level_with level m (claimed_level c ply m)) h

  with_one : (b : Bool) (level : Level) (m : ℕ) (masks : List ℕ) (k : ℕ) → k == m ≡ b → (level k ≡ claimed_level c ply k) ⊎ Contains (m ∷ masks) k
      → ((if b then claimed_level c ply m else level k) ≡ claimed_level c ply k) ⊎ Contains masks k
  with_one true level m masks k e h = inl (ap (claimed_level c ply) (sym (eqb-true k m e)))
  with_one false level m masks k e (inl h) = inl h
  with_one false level m masks k e (inr i) =
      elim (contains_cases m masks k i) [
        | inl same ↦ let t : k == m ≡ true = eq-eqb k m (sym same) in absurd (cc)
        | inr later ↦ inr later
      ]

  after_is : (masks : List ℕ) (level : Level) (k : ℕ) → (level k ≡ claimed_level c ply k) ⊎ Contains masks k → after level masks k ≡ claimed_level c ply k
  after_is [] level k (inl h) = h
  after_is [] level k (inr i) = absurd (contains_none k i)
  after_is (m ∷ masks) level k h = after_is masks (level_with level m (claimed_level c ply m)) k (with_one (k == m) level m masks k refl h)

  module _ (is : IsClaim c) where
    here_or_none : (k : ℕ) (o : Option Automaton) → claimed_at c ply k ≡ o → (no_sets k ≡ as_set o) ⊎ Contains (masks_of c.position) k
    here_or_none k None e = inl refl
    here_or_none k (Some a) e = inr ((masks_are c.position k).1 (is.only ply k a e).1)

    -- mask by mask it is the level of what is claimed
    pub given_level : {budget : ℕ} {l : Level} → Ends (for_masks (masks_of c.position) given no_sets) budget l → l ≡ claimed_level c ply
    given_level h =
        ends_after (masks_of c.position) no_sets h
        ∙ (λ j k. after_is (masks_of c.position) no_sets k (here_or_none k (claimed_at c ply k) refl) j)

-- the level of one set has it
at_own : (mask : ℕ) (b : Bool) (s : SetOf) → mask == mask ≡ b → (if b then s else Nothing) ≡ s
at_own mask true s e = refl
at_own mask false s e = let t = eq-eqb mask mask refl in absurd (cc)

pub lone_set : (p : Position) (mask : ℕ) (a : Automaton) (id : SetId) (sets : List Automaton) (names : List (Option SetId))
    → level_in p sets names ≡ level_with no_sets mask (set_at sets (Some id)) → slice_get sets id.0 ≡ Some a → level_in p sets names mask ≡ Table a
lone_set p mask a id sets names is found =
    ap (λ (l : Level). l mask) is ∙ at_own mask (mask == mask) (set_at sets (Some id)) refl ∙ ap as_set found
