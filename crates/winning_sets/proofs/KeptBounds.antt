-- The tuples of the sets of a ply are tuples of the sets that they are made of, and a level that stands for a set of positions
-- has their tuples.
use Rattle.std.proofs.Common.{◌≡◌, ℕ, ◌≤◌, List, [], ◌∷◌, length, Some, inl, inr, ℤ, sym, subst}
use Rattle.game_rules.specs.Game.{Position, other}
use Rattle.game_rules.specs.declared.men.Side.{Side}
use Rattle.lin_formula.specs.Tree.{Or, Among, free_vars}
use Rattle.lin_formula.specs.SetOf.{SetOf, Nothing, Member}
use Rattle.rule_formula.specs.declared.opt.Opt.{Opt}
use Rattle.rule_formula.specs.Bearings.{bearings_of}
use Rattle.rule_formula.specs.Fits.{Fits, IsGameMask, target_of}
use Rattle.mask_sets.specs.Stock.{mask_of}
use Rattle.mask_sets.specs.Tuple.{tuple_of}
use Rattle.rule_formula.specs.Mean.{HoldsFitting, RulesMean, mask_tracks}
use Rattle.rule_formula.specs.Options.{options_of}
use Rattle.set_plan.specs.Program.{Takes}
use Rattle.set_plan.specs.Unite.{two}
use Rattle.set_plan.proofs.Composition.{Takes-split, none_some}
use Rattle.set_plan.proofs.Takings.{IsOver, Takes-give, any-map, difference_set-members, remainder_over, union_of_two-members, union-members, union_over}
use Rattle.mate_plan.specs.Plan.{Level, Rules, bear_item, bear_items, difference, lost_set_by, lost_set_if_by, name, pre_item, pre_items_by, union}
use Rattle.mate_plan.specs.PlanOf.{rules_of}
use Rattle.mate_plan.specs.declared.names.Part.{Part}
use Rattle.mate_plan.specs.declared.names.Part.TheVariants as kind
use Rattle.winning_sets.specs.PlanMeans.{IsLevelOf}
use Rattle.winning_sets.proofs.KeptSets.{Entries, Stands, bear_have, pre_have}
use Rattle.winning_sets.proofs.KeptWithin.{bear_within, pre_within}

-- a level that stands for a set whose positions fit has exactly their tuples
pub level-of : (p : Position) (side : Side) (S : Position → Type 0) (level : Level)
    → ((q : Position) → S q → Fits p side q) → Stands p side level S → ((m : ℕ) → HoldsFitting p side m (level m))
    → IsLevelOf S level
level-of p side S level fits stands fitting = record {
  same = λ m tuple. (
    λ h.
        let (q, fit, mask, is) = fitting m tuple h in
        let At : ℕ → Type 0 = λ k. Member (level k) (tuple_of q) in
        let here : Member (level m) (tuple_of q) = subst (Member (level m)) (sym is) h in
        record { position = q; is_in = (stands q fit).0 (subst At (sym mask) here); mask_is = mask; tuple_is = is },
    λ h.
        let At : ℕ → Type 0 = λ k. Member (level k) (tuple_of h.position) in
        subst (Member (level m)) h.tuple_is (subst At h.mask_is ((stands h.position (fits h.position h.is_in)).1 h.is_in)),
  );
}

module _ (p : Position) (few : length p.men ≤ 8) (mean : RulesMean p) where
  abbrev rules : Rules
  rules = rules_of p

  free : (m : ℕ) → free_vars (Or (Among 0 (mask_tracks p m)) (Among 1 (mask_tracks p m))) ≡ mask_tracks p m
  free m = mean.game.tracks m 0 1

  -- the tuples of a union of pre are in its source
  pub union_pre : (side : Side) (ply : ℕ) (k : Part) {m : ℕ} (source : SetOf) (into : Opt → Level) (s : SetOf) (xs : Entries) → IsGameMask p m
      → Takes (union rules ply m k (pre_items_by rules side m source into)) xs (Some s) → (tuple : List ℤ) → Member s tuple → Member source tuple
  union_pre side ply k {m} source into s xs game t tuple h =
      let whole = union-members (mask_tracks p m) (name ply m k) (free m) (pre_items_by rules side m source into) xs s (pre_have p mean side source into game) t tuple in
      let (o, i, member) = (any-map (λ o. pre_item rules m source (into o) o) (options_of p.men m side) tuple).0 (whole.0 h) in
      pre_within p.men m o 0 1 (two source (into o (target_of m o))) tuple few ((mean.options side m o game i).pre_tracks 0 1) member

  -- and so are those of a union of bear
  union_bear : (side : Side) (ply : ℕ) {m : ℕ} (source s : SetOf) (xs : Entries) → IsGameMask p m
      → Takes (union rules ply m kind.Check (bear_items rules side m source)) xs (Some s) → (tuple : List ℤ) → Member s tuple → Member source tuple
  union_bear side ply {m} source s xs game t tuple h =
      let whole = union-members (mask_tracks p m) (name ply m kind.Check) (free m) (bear_items rules side m source) xs s (bear_have p mean side source game) t tuple in
      let (b, i, member) = (any-map (bear_item rules m source) (bearings_of p.men m side) tuple).0 (whole.0 h) in
      bear_within p.men m b.man b.ray b.king 0 (λ _. source) tuple ((mean.bearings m side b game i).bear_tracks 0) member

  -- what is lost in a set is in the set
  lost_within : (side : Side) (ply : ℕ) {m : ℕ} (all s : SetOf) (reply rests : Opt → Level) (xs : Entries) → IsGameMask p m → IsOver (mask_tracks p m) all
      → Takes (lost_set_by rules side ply m all reply rests) xs (Some s) → (tuple : List ℤ) → Member s tuple → Member all tuple
  lost_within side ply {m} all s reply rests xs game over t tuple h =
      let (a1, b1, escape, order, t1, r1) = Takes-split (union rules ply m kind.Escape (pre_items_by rules side m all rests)) _ xs s t in
      let (a2, b2, calm, order, t2, r2) = Takes-split (difference rules ply m kind.Calm all escape) _ b1 s r1 in
      let (a3, b3, check, order, t3, r3) = Takes-split (union rules ply m kind.Check (bear_items rules (other side) m calm)) _ b2 s r2 in
      let (a4, b4, quiet, order, t4, r4) = Takes-split (difference rules ply m kind.Quiet calm check) _ b3 s r3 in
      let (a5, b5, replies, order, t5, r5) = Takes-split (union rules ply m kind.Reply (pre_items_by rules side m quiet reply)) _ b4 s r4 in
      let calm_over = remainder_over (mask_tracks p m) (name ply m kind.Calm) (free m) all escape a2 calm over t2 in
      let check_over = union_over (mask_tracks p m) (name ply m kind.Check) (free m) (bear_items rules (other side) m calm) a3 check (bear_have p mean (other side) calm game) t3 in
      let reply_over = union_over (mask_tracks p m) (name ply m kind.Reply) (free m) (pre_items_by rules side m quiet reply) a5 replies (pre_have p mean side quiet reply game) t5 in
      let joined = union_of_two-members (mask_tracks p m) (name ply m kind.Lost) (free m) check replies b5 s check_over reply_over r5 tuple in
      let calms = difference_set-members (mask_tracks p m) (name ply m kind.Calm) (free m) all escape a2 calm over t2 tuple in
      let quiets = difference_set-members (mask_tracks p m) (name ply m kind.Quiet) (free m) calm check a4 quiet calm_over t4 tuple in
      elim (joined.0 h) [
        | inl c ↦ (calms.0 (union_bear (other side) ply calm check a3 game t3 tuple c)).0
        | inr r ↦ (calms.0 (quiets.0 (union_pre side ply kind.Reply quiet reply replies a5 game t5 tuple r)).0).0
      ]

  pub lost_within_if : (side : Side) (ply : ℕ) {m : ℕ} (all : Level) (reply rests : Opt → Level) (s : SetOf) (xs : Entries) → IsGameMask p m
      → IsOver (mask_tracks p m) (all m) → Takes (lost_set_if_by rules side ply all reply rests m) xs (Some s) → (tuple : List ℤ) → Member s tuple
      → Member (all m) tuple
  lost_within_if side ply all reply rests s xs game over (inl (e, o)) tuple h = none_some o
  lost_within_if side ply all reply rests s xs game over (inr (inl (inl empty, t))) tuple h =
      let In_it : SetOf → Type 0 = λ u. Member u tuple in
      absurd (subst In_it (Takes-give Nothing s xs t) h)
  lost_within_if side ply all reply rests s xs game over (inr (inl (inr never, t))) tuple h = absurd never
  lost_within_if side ply {m} all reply rests s xs game over (inr (inr (some, t))) tuple h =
      lost_within side ply (all m) s reply rests xs game over t tuple h
