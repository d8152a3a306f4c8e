-- The rules of the replies: each one has an answer into what is claimed, and there is one, or check.
use Rattle.std.proofs.Common.{◌≡◌, ◌↔◌, ℕ, suc, ◌+◌, Bool, true, List, [], ◌∷◌, map, Some, inl, inr, ℤ, refl, sym, ap, ◌∙◌, subst, arith}
use Rattle.std.specs.Prelude.{Contains}
use Rattle.game_rules.specs.Game.{InCheck, Moves, Position, Sound, other}
use Rattle.game_rules.specs.declared.men.Side.{Side}
use Rattle.game_laws.proofs.DecideLemmas.{in_check}
use Rattle.game_laws.proofs.SoundLemmas.{other_other}
use Rattle.lin_formula.specs.SetOf.{Member, SetOf}
use Rattle.rule_formula.specs.Fits.{Fits, IsGameMask, masks_of}
use Rattle.mask_sets.specs.Stock.{mask_of}
use Rattle.rule_formula.specs.Laws.{StepsTo}
use Rattle.rule_formula.specs.Mean.{HoldsFitting, RulesMean, mask_tracks}
use Rattle.mask_sets.specs.Tuple.{tuple_of}
use Rattle.set_plan.specs.Program.{Takes}
use Rattle.set_plan.specs.Unite.{is_within}
use Rattle.set_plan.proofs.Composition.{Takes-split, none_some}
use Rattle.mate_plan.specs.Plan.{Level, Program, Rules, bear_items, difference, name, no_sets, pre_items, reach_level, reach_set, union}
use Rattle.mate_plan.specs.PlanOf.{rules_of}
use Rattle.mate_plan.specs.Questions.{are_answered, have_moves, have_replies, quiet_set}
use Rattle.mate_plan.specs.declared.names.Part.TheVariants as kind
use Rattle.winning_sets.proofs.KeptParts.{Checked, Image, Moves-safe, Pre, Safe, StepsTo-moves, Without, safe-moves}
use Rattle.winning_sets.proofs.KeptSets.{Entries, Stands, check-stands, difference-stands, for_masks-level, game_mask, in_masks, pre-stands, reach_set-stands, reach_set_fitting}
use Rattle.set_plan.proofs.Takings.{Takes-give, difference_set-members}
use Rattle.mate_plan.specs.Claim.{Claim, IsClaim, IsClaimed, claimed_level}
use Rattle.claim_plan.specs.CheckPlan.{and_then, check_left, check_replies, check_stale, for_each, rule_at}
use Rattle.claim_plan.specs.Checked.{RuleHolds, KeepsRule, reply_rules}
use Rattle.claim_plan.specs.declared.names.Rule.TheVariants as rule
use Rattle.winning_sets.proofs.ClaimedLemmas.{claimed_fits, claimed_sound}
use Rattle.claim_plan.proofs.ClaimLemmas.{claimed_member, claimed_positions}
use Rattle.claim_plan.proofs.Findings.{Checks, Tells, and_then-checks, for_each-one, is_within-tells, tells-same, told-checks}
use Rattle.claim_plan.proofs.SetRules.{claimed_over, claimed_stands}

module _ (c : Claim) (is : IsClaim c) (mean : RulesMean c.position) (apart : (ply m : ℕ) → RuleHolds c rule.Same ply m) (safe : (ply m : ℕ) → RuleHolds c rule.Guard ply m) where
  abbrev p : Position
  p = c.position

  abbrev rules : Rules
  rules = rules_of c.position

  abbrev loser : Side
  loser = other c.winner

  fits_of : {ply : ℕ} {q : Position} → IsClaimed c ply q → Fits c.position (other c.winner) q
  fits_of {ply} {q} h = claimed_fits c is h (apart ply (mask_of q) q (record { claimed = h; mask_is = refl }))

  sound_of : {ply : ℕ} {q : Position} → IsClaimed c ply q → Sound q
  sound_of {ply} {q} h = claimed_sound c is h (apart ply (mask_of q) q (record { claimed = h; mask_is = refl })) (safe ply (mask_of q) q (record { claimed = h; mask_is = refl }))

  -- each tuple of a claimed set is that of a position that fits
  fitting : (ply m : ℕ) → HoldsFitting c.position (other c.winner) m (claimed_level c ply m)
  fitting ply m tuple h =
      let known = claimed_positions c is ply m tuple h in
      let q = known.position in
      let claimed = known.is_in in
      let mask = known.mask_is in
      let same = known.tuple_is in
      (q, fits_of claimed, mask, same)

  replied_from : (ply : ℕ) {r : Position} → Safe (Image (IsClaimed c ply)) r → (q : Position) × IsClaimed c ply q × Moves q r
  replied_from ply {r} h = (h.is_in.from, h.is_in.is_in, Moves-safe h.is_in.from r h.is_in.step h.safe)

  replied_to : {ply : ℕ} {q : Position} (r : Position) → IsClaimed c ply q → Moves q r → Safe (Image (IsClaimed c ply)) r
  replied_to {q} r h moves = record {
    is_in = record { from = q; is_in = h; step = StepsTo-moves q r moves };
    safe = safe-moves q r moves;
  }

  -- a reply leads to a position that fits, with the winner to move
  pub replied_fits : {ply : ℕ} {q : Position} (r : Position) → IsClaimed c ply q → Moves q r → Fits c.position (other (other c.winner)) r
  replied_fits {q} r h moves =
      let fits = fits_of h in
      let (o, i, takes) = (mean.game.steps loser q r fits (sound_of h)).0 (StepsTo-moves q r moves) in
      (mean.game.target loser o q r fits i takes).1

  -- a step of the winner into a claimed position is a move
  pub answer_moves : {ply : ℕ} (r : Position) {s : Position} → IsClaimed c ply s → StepsTo r s → Moves r s
  answer_moves {ply} r {s} h step =
      let P : Side → Type 0 = λ t. InCheck s t → ⊥ in
      let his : other s.turn ≡ c.winner = ap other h.turn ∙ other_other c.winner in
      Moves-safe r s step (subst P (sym his) (safe ply (mask_of s) s (record { claimed = h; mask_is = refl })))

  -- what is claimed, as it stands for the side that moves after the winner
  claimed_later : (ply : ℕ) → Stands c.position (other (other (other c.winner))) (claimed_level c ply) (IsClaimed c ply)
  claimed_later ply =
      let P : Side → Type 0 = λ s. Stands c.position s (claimed_level c ply) (IsClaimed c ply) in
      subst P (sym (other_other (other c.winner))) (claimed_stands c is mean ply)

  module _ (ply : ℕ) (reached : Level) (us : Entries) (reaches : Takes (reach_level (rules_of c.position) (other c.winner) (suc ply) (claimed_level c ply)) us (Some reached)) where
    abbrev reach_of : ℕ → Program SetOf
    reach_of = reach_set rules loser (suc ply) (claimed_level c ply)

    reached_stands : Stands c.position (other (other c.winner)) reached (Safe (Image (IsClaimed c ply)))
    reached_stands r fits =
        let Is : ℕ → SetOf → Type 0 = λ m s. (ys : Entries) × Takes (reach_of m) ys (Some s) in
        let (ys, made) = for_masks-level reach_of Is (masks_of p) (λ m i s zs h. (zs, h)) no_sets reached us reaches (mask_of r) (inr (in_masks p mean (other loser) r fits)) in
        reach_set-stands p mean loser (suc ply) (claimed_level c ply) (reached (mask_of r)) ys (IsClaimed c ply) r (fitting ply)
        (claimed_stands c is mean ply) (λ q h. (fits_of h, sound_of h)) fits made

    reached_fitting : (m : ℕ) → HoldsFitting c.position (other (other c.winner)) m (reached m)
    reached_fitting m =
        for_masks-level reach_of (HoldsFitting p (other loser)) (masks_of p)
        (λ m i s ys made. reach_set_fitting p mean loser (suc ply) (claimed_level c ply) m s ys i (fitting ply) made)
        no_sets reached us reaches m (inl (λ tuple h. absurd h))

    -- a reply leads to a sound position
    replied_sound : (r : Position) → Safe (Image (IsClaimed c ply)) r → Sound r
    replied_sound r h =
        let (q, claimed, moves) = replied_from ply h in
        let fits = replied_fits r claimed moves in
        record { kings = fits.kings; apart = fits.apart; other_safe = h.safe }

    -- left
    left_means : {m : ℕ} (answer : SetOf) (vs : Entries) → IsGameMask c.position m
        → Takes
        (union (rules_of c.position) (suc ply) m kind.Answer
        (pre_items (rules_of c.position) (other (other c.winner)) m (reached m) (claimed_level c (ply + 2))))
        vs (Some answer)
        → ((tuple : List ℤ) → Member (reached m) tuple → Member answer tuple) ↔ RuleHolds c rule.Left (suc ply) m
    left_means {m} answer vs game t =
        let Into : ℕ → Type 0 = λ k. Takes (union rules (suc ply) k kind.Answer (pre_items rules (other loser) k (reached k) (claimed_level c (ply + 2)))) vs (Some answer) in
        let stands = λ (r : Position) (fits : Fits p (other loser) r) (e : mask_of r ≡ m).
        pre-stands p mean {side = other loser} (suc ply) kind.Answer {q = r} (reached (mask_of r)) answer (λ _. claimed_level c (ply + 2)) vs
        (Safe (Image (IsClaimed c ply))) (IsClaimed c (ply + 2)) fits (replied_sound r) (reached_stands r fits)
        (λ o s i here takes fits_s. claimed_later (ply + 2) s fits_s)
        (subst Into (sym e) t) in
        let two : ply + 2 ≡ suc (suc ply) = omega arith in
        let At : ℕ → Position → Type 0 = λ k s. IsClaimed c k s in (
          λ within r w.
              let one = w.next in
              let same : ply ≡ w.before = omega (arith, one) in
              let claimed : IsClaimed c ply w.from = let P : ℕ → Type 0 = λ k. IsClaimed c k w.from in subst P (sym same) w.claimed in
              let fits = replied_fits r claimed w.moves in
              let In : ℕ → Type 0 = λ k. Member (reached k) (tuple_of r) in
              let member = subst In w.mask_is ((reached_stands r fits).1 (replied_to r claimed w.moves)) in
              let pre = (stands r fits w.mask_is).0 (within (tuple_of r) member) in
              let P : ℕ → Type 0 = λ k. IsClaimed c k pre.next in
              (pre.next, answer_moves r pre.leads pre.step, subst P two pre.leads),
          λ says tuple h.
              let (r, fits, mask, is_tuple) = reached_fitting m tuple h in
              let In : ℕ → Type 0 = λ k. Member (reached k) (tuple_of r) in
              let here : Member (reached m) (tuple_of r) = subst (Member (reached m)) (sym is_tuple) h in
              let replied = (reached_stands r fits).0 (subst In (sym mask) here) in
              let (q, claimed, moves) = replied_from ply replied in
              let (s, next, there) = says r (record { before = ply; next = refl; from = q; claimed = claimed; moves = moves; mask_is = mask }) in
              let P : ℕ → Type 0 = λ k. IsClaimed c k s in
              let member = (stands r fits mask).1 (record { is_in = replied; next = s; step = StepsTo-moves r s next; leads = subst P (sym two) there }) in
              subst (Member answer) is_tuple member,
        )

    left-checks : (m : ℕ) → Contains (masks_of c.position) m
        → Checks (KeepsRule c) (rule_at (suc ply) m rule.Left ∷ [])
        (check_left (rules_of c.position) (other (other c.winner)) (suc ply) reached (claimed_level c (ply + 2)) m)
    left-checks m i =
        let r = rule_at (suc ply) m rule.Left in
        let part = name (suc ply) m kind.Left in
        told-checks (KeepsRule c) r (are_answered rules (other loser) (suc ply) reached (claimed_level c (ply + 2)) m)
        (λ xs b t.
        let (us, vs, answer, order, first, rest) =
        Takes-split (union rules (suc ply) m kind.Answer (pre_items rules (other loser) m (reached m) (claimed_level c (ply + 2))))
        (λ answer. is_within (mask_tracks p m) part (reached m) answer) xs b t in
        tells-same ((tuple : List ℤ) → Member (reached m) tuple → Member answer tuple) (KeepsRule c r) b
        (left_means answer us (game_mask p mean m i) first)
        (is_within-tells (mask_tracks p m) part (reached m) answer vs b rest))

    -- stale
    module _ (m : ℕ) (game : IsGameMask c.position m) (check quiet reply : SetOf) (es bs cs : Entries)
        (checks : Takes (union (rules_of c.position) ply m kind.Check (bear_items (rules_of c.position) (other (other c.winner)) m (claimed_level c ply m))) es (Some check))
        (quiets : Takes (difference (rules_of c.position) ply m kind.Quiet (claimed_level c ply m) check) bs (Some quiet))
        (replies : Takes (union (rules_of c.position) ply m kind.Reply (pre_items (rules_of c.position) (other c.winner) m quiet reached)) cs (Some reply)) where
      abbrev Quietly : Position → Type 0
      Quietly = Without (IsClaimed c ply) (Checked (IsClaimed c ply))

      check_at : {q : Position} → Fits c.position (other c.winner) q → mask_of q ≡ m → Member check (tuple_of q) ↔ Checked (IsClaimed c ply) q
      check_at {q} fits e =
          let Into : ℕ → Type 0 = λ k. Takes (union rules ply k kind.Check (bear_items rules (other loser) k (claimed_level c ply k))) es (Some check) in
          check-stands p mean ply (claimed_level c ply (mask_of q)) check es (IsClaimed c ply) fits (claimed_stands c is mean ply q fits) (subst Into (sym e) checks)

      quiet_at : {q : Position} → Fits c.position (other c.winner) q → mask_of q ≡ m → Member quiet (tuple_of q) ↔ Without (IsClaimed c ply) (Checked (IsClaimed c ply)) q
      quiet_at {q} fits e =
          let Into : ℕ → Type 0 = λ k. Takes (difference rules ply k kind.Quiet (claimed_level c ply k) check) bs (Some quiet) in
          difference-stands p mean ply kind.Quiet q (claimed_level c ply (mask_of q)) check quiet bs (IsClaimed c ply) (Checked (IsClaimed c ply))
          (claimed_over c is mean ply (mask_of q)) (claimed_stands c is mean ply q fits) (check_at fits e) (subst Into (sym e) quiets)

      reply_at : {q : Position} → Fits c.position (other c.winner) q → mask_of q ≡ m
          → Member reply (tuple_of q) ↔ Pre (Without (IsClaimed c ply) (Checked (IsClaimed c ply))) (Safe (Image (IsClaimed c ply))) q
      reply_at fits e =
          let Into : ℕ → Type 0 = λ k. Takes (union rules ply k kind.Reply (pre_items rules loser k quiet reached)) cs (Some reply) in
          pre-stands p mean ply kind.Reply quiet reply (λ _. reached) cs Quietly (Safe (Image (IsClaimed c ply))) fits (λ h. sound_of h.is_in)
          (quiet_at fits e) (λ o s i here takes fits_s. reached_stands s fits_s) (subst Into (sym e) replies)

      stale_means : ((tuple : List ℤ) → Member quiet tuple → Member reply tuple) ↔ RuleHolds c rule.Stale ply m
      stale_means = (
        λ within q w.
            let h = w.claimed in
            let e = w.mask_is in
            let fits = fits_of h in
            elim (in_check q q.turn) [
              | inl check ↦ inl check
              | inr none ↦
                  let member = (quiet_at fits e).1 (record { is_in = h; not_in = λ k. none k.check }) in
                  let pre = (reply_at fits e).0 (within (tuple_of q) member) in
                  let (i, z, legal) = Moves-safe q pre.next pre.step pre.leads.safe in
                  inr (i, z, pre.next, legal)
            ],
        λ says tuple h.
            let of_both = difference_set-members (mask_tracks p m) (name ply m kind.Quiet) (mean.game.tracks m 0 1) (claimed_level c ply m) check bs quiet (claimed_over c is mean ply m) quiets tuple in
            let known = claimed_positions c is ply m tuple (of_both.0 h).0 in
            let q = known.position in
            let claimed = known.is_in in
            let mask = known.mask_is in
            let is_tuple = known.tuple_is in
            let fits = fits_of claimed in
            let quietly = (quiet_at fits mask).0 (subst (Member quiet) (sym is_tuple) h) in
            elim (says q (record { claimed = claimed; mask_is = mask })) [
              | inl check ↦ absurd (quietly.not_in (record { is_in = claimed; check = check }))
              | inr (i, z, r, legal) ↦
                  let moves : Moves q r = (i, z, legal) in
                  subst (Member reply) is_tuple ((reply_at fits mask).1 (record { is_in = quietly; next = r; step = StepsTo-moves q r moves; leads = replied_to r claimed moves }))
            ],
      )

    replies-tell : (m : ℕ) → Contains (masks_of c.position) m → (xs : Entries) (b : Bool)
        → Takes (have_replies (rules_of c.position) (other c.winner) ply (claimed_level c ply) reached m) xs (Some b)
        → Tells (RuleHolds c rule.Stale ply m) b
    replies-tell m i xs b (inl (e, o)) = none_some o
    replies-tell m i xs b (inr (inl (inl empty, t))) =
        inl (λ q w. absurd (empty (tuple_of q) (claimed_member c is ply m q w.claimed w.mask_is)), Takes-give true b xs t)
    replies-tell m i xs b (inr (inl (inr never, t))) = absurd never
    replies-tell m i xs b (inr (inr (some, t))) =
        let s = claimed_level c ply m in
        let part = name ply m kind.Stale in
        let (us, vs, quiet, o1, t1, r1) = Takes-split (quiet_set rules loser ply m s) (λ quiet. have_moves rules loser ply m kind.Reply kind.Stale quiet reached) xs b t in
        let (a1, a2, check, o2, t2, r2) = Takes-split (union rules ply m kind.Check (bear_items rules (other loser) m s)) (λ check. difference rules ply m kind.Quiet s check) us quiet t1 in
        let (a3, a4, reply, o3, t3, r3) = Takes-split (union rules ply m kind.Reply (pre_items rules loser m quiet reached)) (λ reply. is_within (mask_tracks p m) part quiet reply) vs b r1 in
        tells-same ((tuple : List ℤ) → Member quiet tuple → Member reply tuple) (RuleHolds c rule.Stale ply m) b
        (stale_means m (game_mask p mean m i) check quiet reply a1 a2 a3 t2 r2 t3)
        (is_within-tells (mask_tracks p m) part quiet reply a4 b r3)

    stale-checks : (m : ℕ) → Contains (masks_of c.position) m
        → Checks (KeepsRule c) (rule_at ply m rule.Stale ∷ [])
        (check_stale (rules_of c.position) (other c.winner) ply (claimed_level c ply) reached m)
    stale-checks m i = told-checks (KeepsRule c) (rule_at ply m rule.Stale) (have_replies rules loser ply (claimed_level c ply) reached m) (replies-tell m i)

  -- the rules of the replies of one ply
  pub replies-checks : (ply : ℕ) → Checks (KeepsRule c) (reply_rules c ply) (check_replies (rules_of c.position) (other c.winner) ply (claimed_level c ply) (claimed_level c (ply + 2)))
  replies-checks ply xs found t =
      let lefts = λ (reached : Level). for_each (masks_of p) (check_left rules (other loser) (suc ply) reached (claimed_level c (ply + 2))) in
      let stales = λ (reached : Level). for_each (masks_of p) (check_stale rules loser ply (claimed_level c ply) reached) in
      let (us, vs, reached, order, first, rest) = Takes-split (reach_level rules loser (suc ply) (claimed_level c ply)) (λ reached. and_then (lefts reached) (stales reached)) xs found t in
      and_then-checks (KeepsRule c) (map (λ m. rule_at (suc ply) m rule.Left) (masks_of p)) (map (λ m. rule_at ply m rule.Stale) (masks_of p)) (lefts reached) (stales reached)
      (for_each-one (KeepsRule c) (λ m. rule_at (suc ply) m rule.Left) (check_left rules (other loser) (suc ply) reached (claimed_level c (ply + 2))) (masks_of p) (left-checks ply reached us first))
      (λ all. for_each-one (KeepsRule c) (λ m. rule_at ply m rule.Stale) (check_stale rules loser ply (claimed_level c ply) reached) (masks_of p) (stale-checks ply reached us first))
      vs found rest
