-- Two claims of the same sets.
use Rattle.std.proofs.Common.{◌≡◌, ◌↔◌, ℕ, List, Option, Some, None, refl, sym, ◌∙◌, subst}
use Rattle.auto_core.specs.Automaton.{Automaton}
use Rattle.game_rules.specs.Game.{Position}
use Rattle.game_rules.specs.declared.men.Side.{Side}
use Rattle.mask_sets.specs.Stock.{mask_of}
use Rattle.mask_sets.specs.Tuple.{tuple_of}
use Rattle.set_plan.specs.Outcome.{Ends, Stops}
use Rattle.set_plan.specs.declared.stop.PartStep.{PartStep}
use Rattle.set_plan.proofs.Alike.{Ends-alike, Stops-alike}
use Rattle.set_plan.proofs.Composition.{none_some}
use Rattle.set_plan.proofs.Unique.{Ends-not_stops, Ends-one, Stops-one}
use Rattle.mate_plan.specs.Claim.{Claim, ClaimedSet, IsClaim, IsClaimed, claimed_at, claimed_in}
use Rattle.mate_plan.specs.Won.{Won}
use Rattle.mate_plan.specs.declared.names.PartName.{PartName}
use Rattle.claim_plan.specs.CheckLaws.{CheckEndsOnce}
use Rattle.claim_plan.specs.CheckPlan.{Finding, check_plan}
use Rattle.mate_plan.specs.SameClaim.{AreSameSets, IsSameClaim, IsSameSet}
use Rattle.claim_plan.specs.SameClaims.{AreCheckedAlike, SameClaimsAreCheckedAlike}
use Rattle.claim_plan.proofs.CheckAlike.{Same, check_plan-alike}
use Rattle.claim_plan.proofs.KeptClaims.{won_same}
use Rattle.claim_plan.proofs.SameSets.{AreSameSets-back, AreSameSets-self, decides-same, some_same}

-- what is there on the one side, and which it is
none_there : (o u : Option Automaton) → AreSameSets o u → u ≡ None → o ≡ None
none_there None u same e = refl
none_there (Some a) None same e = absurd same
none_there (Some a) (Some b) same e = none_some e

pub some_there : (o u : Option Automaton) (b : Automaton) → AreSameSets o u → u ≡ Some b → (a : Automaton) × (o ≡ Some a) × IsSameSet a b
some_there o None b same e = none_some (sym e)
some_there None (Some v) b same e = absurd same
some_there (Some a) (Some v) b same e =
    let is : v ≡ b = cc in
    (a, refl, subst (IsSameSet a) is same)

module _ (p : Position) (w : Side) (n : ℕ) (xs ys : List ClaimedSet) (same : (ply mask : ℕ) → AreSameSets (claimed_in xs ply mask) (claimed_in ys ply mask)) where
  abbrev c : Claim
  c = record { position = p; winner = w; moves = n; sets = xs }

  abbrev d : Claim
  d = record { position = p; winner = w; moves = n; sets = ys }

  pub position_along : (ply : ℕ) (q : Position) → IsClaimed (record { position = p; winner = w; moves = n; sets = xs }) ply q
      → IsClaimed (record { position = p; winner = w; moves = n; sets = ys }) ply q
  position_along ply q h = record {
    stock = h.stock;
    turn = h.turn;
    is_in = some_same (claimed_in xs ply (mask_of q)) (claimed_in ys ply (mask_of q)) (tuple_of q) (same ply (mask_of q)) h.is_in;
  }

  pub claim_along : IsClaim (record { position = p; winner = w; moves = n; sets = xs }) → IsClaim (record { position = p; winner = w; moves = n; sets = ys })
  claim_along h = record {
    sound = h.sound;
    few = h.few;
    found = λ ply mask losers game none. h.found ply mask losers game (none_there (claimed_in xs ply mask) (claimed_in ys ply mask) (same ply mask) none);
    only = λ ply mask b e.
        let (a, there, sets) = some_there (claimed_in xs ply mask) (claimed_in ys ply mask) b (same ply mask) e in
        h.only ply mask a there;
    tracks = λ ply mask b e.
        let (a, there, sets) = some_there (claimed_in xs ply mask) (claimed_in ys ply mask) b (same ply mask) e in
        sym sets.tracks ∙ h.tracks ply mask a there;
  }

  pub end_along : (budget : ℕ) (found : Finding) → Ends (check_plan (record { position = p; winner = w; moves = n; sets = xs })) budget found
      → Ends (check_plan (record { position = p; winner = w; moves = n; sets = ys })) budget found
  end_along budget found h =
      let (other_one, ends, is) = Ends-alike Same (check_plan d) (check_plan-alike p w n xs ys same) h in
      subst (λ (o : Finding). Ends (check_plan d) budget o) (sym is) ends

  pub stop_along : (budget : ℕ) (x : PartStep PartName) → Stops (check_plan (record { position = p; winner = w; moves = n; sets = xs })) budget x
      → Stops (check_plan (record { position = p; winner = w; moves = n; sets = ys })) budget x
  stop_along budget x h = Stops-alike Same (check_plan d) (check_plan-alike p w n xs ys same) h

  module _
      (positions : (ply : ℕ) (q : Position)
      → IsClaimed (record { position = p; winner = w; moves = n; sets = xs }) ply q
      ↔ IsClaimed (record { position = p; winner = w; moves = n; sets = ys }) ply q) where
    pub won_along : Won (record { position = p; winner = w; moves = n; sets = xs }) → Won (record { position = p; winner = w; moves = n; sets = ys })
    won_along h = record {
      sign = λ ply mask b e.
          let (a, there, sets) = some_there (claimed_in xs ply mask) (claimed_in ys ply mask) b (same ply mask) e in
          (decides-same sets).0 (h.sign ply mask a there);
      positions = won_same w p (IsClaimed c) (IsClaimed d) positions h.positions;
    }

module _ (p : Position) (w : Side) (n : ℕ) (xs ys : List ClaimedSet) (same : (ply mask : ℕ) → AreSameSets (claimed_in xs ply mask) (claimed_in ys ply mask)) where
  back : (ply mask : ℕ) → AreSameSets (claimed_in ys ply mask) (claimed_in xs ply mask)
  back ply mask = AreSameSets-back (claimed_in xs ply mask) (claimed_in ys ply mask) (same ply mask)

  positions : (ply : ℕ) (q : Position) → IsClaimed (record { position = p; winner = w; moves = n; sets = xs }) ply q ↔ IsClaimed (record { position = p; winner = w; moves = n; sets = ys }) ply q
  positions ply q = (position_along p w n xs ys same ply q, position_along p w n ys xs back ply q)

  positions_back : (ply : ℕ) (q : Position)
      → IsClaimed (record { position = p; winner = w; moves = n; sets = ys }) ply q
      ↔ IsClaimed (record { position = p; winner = w; moves = n; sets = xs }) ply q
  positions_back ply q = ((positions ply q).1, (positions ply q).0)

  pub sets_alike : AreCheckedAlike (record { position = p; winner = w; moves = n; sets = xs }) (record { position = p; winner = w; moves = n; sets = ys })
  sets_alike = record {
    positions = positions;
    claims = (claim_along p w n xs ys same, claim_along p w n ys xs back);
    won = (won_along p w n xs ys same positions, won_along p w n ys xs back positions_back);
    ends = λ budget found. (end_along p w n xs ys same budget found, end_along p w n ys xs back budget found);
    stops = λ budget x. (stop_along p w n xs ys same budget x, stop_along p w n ys xs back budget x);
  }

pub same_claims_are_checked_alike : SameClaimsAreCheckedAlike
same_claims_are_checked_alike = λ c d h. at d.position d.winner d.moves d.sets c h
  where
    with_moves : (p : Position) (w : Side) (n k : ℕ) (xs ys : List ClaimedSet) → k ≡ n
        → ((ply mask : ℕ) → AreSameSets (claimed_in xs ply mask) (claimed_in ys ply mask))
        → AreCheckedAlike (record { position = p; winner = w; moves = k; sets = xs }) (record { position = p; winner = w; moves = n; sets = ys })
    with_moves p w n k xs ys e same =
        let At : ℕ → Type 0 = λ m. AreCheckedAlike (record { position = p; winner = w; moves = k; sets = xs }) (record { position = p; winner = w; moves = m; sets = ys }) in
        subst At e (sets_alike p w k xs ys same)

    at : (p : Position) (w : Side) (n : ℕ) (ys : List ClaimedSet) (c : Claim)
        → IsSameClaim c (record { position = p; winner = w; moves = n; sets = ys })
        → AreCheckedAlike c (record { position = p; winner = w; moves = n; sets = ys })
    at p w n ys c h =
        let At : Side → Type 0 = λ s. AreCheckedAlike c (record { position = c.position; winner = s; moves = n; sets = ys }) in
        let On : Position → Type 0 = λ q. AreCheckedAlike c (record { position = q; winner = w; moves = n; sets = ys }) in
        subst On h.position (subst At h.winner (with_moves c.position c.winner n c.moves c.sets ys h.moves h.sets))

pub check_ends_once : CheckEndsOnce
check_ends_once = λ c budget.
    let self = check_plan-alike c.position c.winner c.moves c.sets c.sets (λ ply mask. AreSameSets-self (claimed_at c ply mask)) in
    record {
      one_end = Ends-one Same (check_plan c) (check_plan c) budget self;
      one_step = Stops-one Same (check_plan c) (check_plan c) budget self;
      not_both = Ends-not_stops Same (check_plan c) (check_plan c) budget self;
    }
