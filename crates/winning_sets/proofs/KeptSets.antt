-- The levels that a plan makes stand for the sets that its parts make.
use Rattle.std.proofs.Common.{◌≡◌, ◌↔◌, ℕ, suc, ◌⊎◌, ◌==◌, if◌then◌else◌, Bool, true, false, List, [], ◌∷◌, map, Some, inl, inr, ℤ, refl, sym, ap, ◌∙◌, subst}
use Rattle.std.specs.Prelude.{Contains}
use Rattle.std.proofs.lemmas.Bool.{eqb-true, eq-eqb}
use Rattle.game_rules.specs.Game.{InCheck, Position, Sound, other}
use Rattle.game_rules.specs.declared.men.Side.{Side}
use Rattle.game_laws.proofs.SoundLemmas.{other_other}
use Rattle.lin_formula.specs.Tree.{Or, Among, free_vars}
use Rattle.lin_formula.specs.SetOf.{SetOf, Nothing, Member}
use Rattle.rule_formula.specs.declared.opt.Bearing.{Bearing}
use Rattle.rule_formula.specs.declared.opt.Opt.{Opt}
use Rattle.rule_formula.specs.Bearings.{bearings_of}
use Rattle.rule_formula.specs.Fits.{Fits, IsGameMask, masks_of, target_of}
use Rattle.mask_sets.specs.Stock.{mask_of}
use Rattle.rule_formula.specs.Mean.{BearsOnKing, BearingsMean, HoldsFitting, IsImageOf, RulesMean, mask_tracks}
use Rattle.rule_formula.specs.Meaning.{TakesOption}
use Rattle.rule_formula.specs.Options.{options_of}
use Rattle.mask_sets.specs.Tuple.{tuple_of}
use Rattle.set_plan.specs.Program.{Entry, Give, Takes, each}
use Rattle.set_plan.specs.Unite.{Made, two}
use Rattle.mate_plan.specs.Plan.{Level, Program, Rules, bear_item, bear_items, choices_into, difference, for_masks, image_item, image_items, level_with, lost_level, lost_set_by, lost_set_if, lost_set_if_by, name, narrow, narrow_by, no_sets, pre_item, pre_items_by, reach_set, rest_set, safe_item, union, win_level, win_set, with_mask}
use Rattle.mate_plan.specs.PlanOf.{rules_of}
use Rattle.mate_plan.specs.declared.names.Part.{Part}
use Rattle.mate_plan.specs.declared.names.Part.TheVariants as kind
use Rattle.mate_plan.specs.declared.names.PartName.{PartName}
use Rattle.winning_sets.proofs.KeptParts.{Positions, Image, Safe, Pre, Checked, Without, Rest, Escape, Calm, Check, Quiet, LostPart}
use Rattle.set_plan.proofs.Composition.{Takes-split, none_some}
use Rattle.set_plan.proofs.Takings.{HaveTracks, IsOver, Takes-give, any-flat_map, any-map, contains_cases, contains_filter, contains_head, contains_none, contains_rest, have-flat_map, have-map, make-members, difference_set-members, remainder_over, union_of_two-members, union-members, union_over}

abbrev pub Entries : Type 0
Entries = List (Entry PartName)

-- the level that is made mask by mask has at each mask what was made for it, or what it had before
pub for_masks-level : (f : ℕ → Program SetOf) (P : ℕ → SetOf → Type 0) (masks : List ℕ)
    → ((m : ℕ) → Contains masks m → (s : SetOf) (xs : Entries) → Takes (f m) xs (Some s) → P m s) → (so_far level : Level) (xs : Entries)
    → Takes (for_masks masks f so_far) xs (Some level) → (m : ℕ) → P m (so_far m) ⊎ Contains masks m → P m (level m)
for_masks-level f P [] each so_far level xs t m h =
    let is : level ≡ so_far = Takes-give so_far level xs t in
    let At : Level → Type 0 = λ l. P m (l m) in
    elim h [ inl before ↦ subst At (sym is) before | inr none ↦ absurd (contains_none m none) ]
for_masks-level f P (k ∷ masks) each so_far level xs t m h =
    let (us, vs, next, order, one, rest) = Takes-split (with_mask f k so_far) (for_masks masks f) xs level t in
    let (ws, zs, s, order, first, given) = Takes-split (f k) (λ s. Give (level_with so_far k s)) us next one in
    let is : next ≡ level_with so_far k s = Takes-give (level_with so_far k s) next zs given in
    let At : Level → Type 0 = λ l. P m (l m) ⊎ Contains masks m in
    for_masks-level f P masks (λ n i. each n (contains_rest k masks n i)) next level vs rest m
    (subst At (sym is) (at (m == k) refl s (each k (contains_head k masks) s ws first) h))
  where
    at : (b : Bool) → m == k ≡ b → (s : SetOf) → P k s → P m (so_far m) ⊎ Contains (k ∷ masks) m → P m (if b then s else so_far m) ⊎ Contains masks m
    at true e s here h =
        let same : m ≡ k = eqb-true m k e in
        inl (subst (λ (n : ℕ). P n s) (sym same) here)
    at false e s here (inl before) = inl before
    at false e s here (inr i) =
        elim (contains_cases k masks m i) [
          | inl same ↦ let t : m == k ≡ true = eq-eqb m k (sym same) in cc
          | inr rest ↦ inr rest
        ]

-- at the positions that fit, the level has the tuples of the positions of the set
abbrev pub Stands : Position → Side → Level → Positions → Type 0
Stands p side level S = (q : Position) → Fits p side q → Member (level (mask_of q)) (tuple_of q) ↔ S q

module _ (p : Position) (mean : RulesMean p) where
  abbrev rules : Rules
  rules = rules_of p

  free : (m : ℕ) → free_vars (Or (Among 0 (mask_tracks p m)) (Among 1 (mask_tracks p m))) ≡ mask_tracks p m
  free m = mean.game.tracks m 0 1

  -- the mask is one of the game's
  pub game_mask : (m : ℕ) → Contains (masks_of p) m → IsGameMask p m
  game_mask m i = (mean.game.masks m).0 i

  pub in_masks : (side : Side) (q : Position) → Fits p side q → Contains (masks_of p) (mask_of q)
  in_masks side q fits = (mean.game.masks (mask_of q)).1 (mean.game.mask_is side q fits)

  pub pre_have : (side : Side) {m : ℕ} (source : SetOf) (into : Opt → Level) → IsGameMask p m → HaveTracks (mask_tracks p m) (pre_items_by rules side m source into)
  pre_have side {m} source into game =
      have-map (mask_tracks p m) (λ o. pre_item rules m source (into o) o) (options_of p.men m side) (λ o i. (mean.options side m o game i).pre_tracks 0 1)

  pub bear_have : (side : Side) {m : ℕ} (source : SetOf) → IsGameMask p m → HaveTracks (mask_tracks p m) (bear_items rules side m source)
  bear_have side {m} source game =
      have-map (mask_tracks p m) (bear_item rules m source) (bearings_of p.men m side) (λ b i. (mean.bearings m side b game i).bear_tracks 0)

  image_have : (side : Side) (to : ℕ) (level : Level) → HaveTracks (mask_tracks p to) (image_items rules side to level)
  image_have side to level =
      have-flat_map (mask_tracks p to) (λ m. map (image_item rules m (level m)) (choices_into rules side m to)) (masks_of p)
      (λ m in_m. have-map (mask_tracks p to) (image_item rules m (level m)) (choices_into rules side m to)
      (λ o i.
      let (j, e) = (contains_filter (λ c. target_of m c == to) (options_of p.men m side) o).0 i in
      (mean.options side m o (game_mask m in_m) j).image_tracks 0 ∙ ap (mask_tracks p) (eqb-true (target_of m o) to e)))

  -- the target of each option stands for the set, at the positions to which a step by the option leads from a set
  abbrev pub LeadBy : Side → Position → (Opt → Level) → Positions → Positions → Type 0
  LeadBy side q into S Q =
      (o : Opt) (r : Position) → Contains (options_of p.men (mask_of q) side) o → S q → TakesOption o q r → Fits p (other side) r
      → Member (into o (mask_of r)) (tuple_of r) ↔ Q r

  -- a union of pre over all options, each with its own target, at a position that fits
  pub pre-stands : {side : Side} (ply : ℕ) (k : Part) {q : Position} (source s : SetOf) (into : Opt → Level) (xs : Entries) (S Q : Positions)
      → Fits p side q → (S q → Sound q) → Member source (tuple_of q) ↔ S q → LeadBy side q into S Q
      → Takes (union rules ply (mask_of q) k (pre_items_by rules side (mask_of q) source into)) xs (Some s) → Member s (tuple_of q) ↔ Pre S Q q
  pre-stands {side} ply k {q} source s into xs S Q fits sound sources leads t =
      let m = mask_of q in
      let game = mean.game.mask_is side q fits in
      let whole = union-members (mask_tracks p m) (name ply m k) (free m) (pre_items_by rules side m source into) xs s (pre_have side source into game) t (tuple_of q) in
      let any = any-map (λ o. pre_item rules m source (into o) o) (options_of p.men m side) (tuple_of q) in
      let means = λ (o : Opt) (i : Contains (options_of p.men m side) o). (mean.options side m o game i).pre 0 1 (two source (into o (target_of m o))) q fits refl in (
        λ h.
            let (o, i, member) = any.0 (whole.0 h) in
            let (here, (r, takes, there)) = (means o i).0 member in
            let (mask, fits_r) = mean.game.target side o q r fits i takes in
            let At : ℕ → Type 0 = λ n. Member (into o n) (tuple_of r) in
            let is_in = sources.0 here in
            record {
              is_in = is_in;
              next = r;
              step = (mean.game.steps side q r fits (sound is_in)).1 (o, i, takes);
              leads = (leads o r i is_in takes fits_r).0 (subst At (sym mask) there);
            },
        λ h.
            let (o, i, takes) = (mean.game.steps side q h.next fits (sound h.is_in)).0 h.step in
            let (mask, fits_r) = mean.game.target side o q h.next fits i takes in
            let At : ℕ → Type 0 = λ n. Member (into o n) (tuple_of h.next) in
            let member = (means o i).1 (sources.1 h.is_in, (h.next, takes, subst At mask ((leads o h.next i h.is_in takes fits_r).1 h.leads))) in
            whole.1 (any.1 (o, i, member)),
      )

  -- the level of a winner's ply stands for what a step leads from into what is kept
  pub win-stands : (side : Side) (ply : ℕ) (reach kept1 level : Level) (xs : Entries) (AtPly KeptAfter : Positions)
      → ((q : Position) → AtPly q → Sound q) → Stands p side reach AtPly → Stands p (other side) kept1 KeptAfter
      → Takes (win_level rules side ply reach kept1) xs (Some level) → Stands p side level (Pre AtPly KeptAfter)
  win-stands side ply reach kept1 level xs AtPly KeptAfter sound reaches keeps t q fits =
      let Is : ℕ → SetOf → Type 0 = λ m s. (ys : Entries) × Takes (win_set rules side ply reach kept1 m) ys (Some s) in
      let (ys, made) = for_masks-level (win_set rules side ply reach kept1) Is (masks_of p) (λ m i s zs h. (zs, h)) no_sets level xs t (mask_of q) (inr (in_masks side q fits)) in
      pre-stands ply kind.Win (reach (mask_of q)) (level (mask_of q)) (λ _. kept1) ys AtPly KeptAfter fits (sound q) (reaches q fits) (λ o r i here takes fits_r. keeps r fits_r) made

  checked : {side : Side} {q : Position} → Fits p side q → InCheck q q.turn → InCheck q (other (other side))
  checked {side} {q} fits h =
      let P : Side → Type 0 = λ s. InCheck q s in
      subst P (fits.turn ∙ sym (other_other side)) h

  unchecked : {side : Side} {q : Position} → Fits p side q → InCheck q (other (other side)) → InCheck q q.turn
  unchecked {side} {q} fits h =
      let P : Side → Type 0 = λ s. InCheck q s in
      subst P (other_other side ∙ sym fits.turn) h

  -- a union of bear over all bearings on the king of the side to move
  pub check-stands : {side : Side} (ply : ℕ) {q : Position} (source s : SetOf) (xs : Entries) (S : Positions) → Fits p side q
      → Member source (tuple_of q) ↔ S q
      → Takes (union rules ply (mask_of q) kind.Check (bear_items rules (other side) (mask_of q) source)) xs (Some s)
      → Member s (tuple_of q) ↔ Checked S q
  check-stands {side} ply {q} source s xs S fits sources t =
      let m = mask_of q in
      let game = mean.game.mask_is side q fits in
      let whole = union-members (mask_tracks p m) (name ply m kind.Check) (free m) (bear_items rules (other side) m source) xs s (bear_have (other side) source game) t (tuple_of q) in
      let any = any-map (bear_item rules m source) (bearings_of p.men m (other side)) (tuple_of q) in
      let means = λ (b : Bearing) (i : Contains (bearings_of p.men m (other side)) b). (mean.bearings m (other side) b game i).bear 0 (λ _. source) side q fits refl in (
        λ h.
            let (b, i, member) = any.0 (whole.0 h) in
            let (here, bears) = (means b i).0 member in
            record { is_in = sources.0 here; check = unchecked fits ((mean.game.checks side (other side) q fits).1 (b, i, bears)) },
        λ h.
            let (b, i, bears) = (mean.game.checks side (other side) q fits).0 (checked fits h.check) in
            whole.1 (any.1 (b, i, (means b i).1 (sources.1 h.is_in, bears))),
      )

  -- one set without another
  pub difference-stands : (ply : ℕ) (k : Part) (q : Position) (s t u : SetOf) (xs : Entries) (S T : Positions) → IsOver (mask_tracks p (mask_of q)) s
      → Member s (tuple_of q) ↔ S q → Member t (tuple_of q) ↔ T q → Takes (difference rules ply (mask_of q) k s t) xs (Some u)
      → Member u (tuple_of q) ↔ Without S T q
  difference-stands ply k q s t u xs S T over in_s in_t takes =
      let m = mask_of q in
      let both = difference_set-members (mask_tracks p m) (name ply m k) (free m) s t xs u over takes (tuple_of q) in (
        λ h. let (a, b) = both.0 h in record { is_in = in_s.0 a; not_in = λ c. b (in_t.1 c) },
        λ h. both.1 (in_s.1 h.is_in, λ b. h.not_in (in_t.0 b)),
      )

  -- the parts of a loser's ply at one mask
  lost_set-stands : {side : Side} (ply : ℕ) {q : Position} (reach s : SetOf) (reply rests : Opt → Level) (xs : Entries)
      (AtPly AfterPly KeptAfter : Positions)
      → Fits p side q → (AtPly q → Sound q) → IsOver (mask_tracks p (mask_of q)) reach → Member reach (tuple_of q) ↔ AtPly q
      → LeadBy side q reply AtPly AfterPly → LeadBy side q rests AtPly (Rest AfterPly KeptAfter)
      → Takes (lost_set_by rules side ply (mask_of q) reach reply rests) xs (Some s) → Member s (tuple_of q) ↔ LostPart AtPly AfterPly KeptAfter q
  lost_set-stands {side} ply {q} reach s reply rests xs AtPly AfterPly KeptAfter fits sound over reaches replied rested t =
      let m = mask_of q in
      let game = mean.game.mask_is side q fits in
      let (a1, b1, escape, order, t1, r1) = Takes-split (union rules ply m kind.Escape (pre_items_by rules side m reach rests)) _ xs s t in
      let (a2, b2, calm, order, t2, r2) = Takes-split (difference rules ply m kind.Calm reach escape) _ b1 s r1 in
      let (a3, b3, check, order, t3, r3) = Takes-split (union rules ply m kind.Check (bear_items rules (other side) m calm)) _ b2 s r2 in
      let (a4, b4, quiet, order, t4, r4) = Takes-split (difference rules ply m kind.Quiet calm check) _ b3 s r3 in
      let (a5, b5, replies, order, t5, r5) = Takes-split (union rules ply m kind.Reply (pre_items_by rules side m quiet reply)) _ b4 s r4 in
      let escapes = pre-stands ply kind.Escape reach escape rests a1 AtPly (Rest AfterPly KeptAfter) fits sound reaches rested t1 in
      let calms = difference-stands ply kind.Calm q reach escape calm a2 AtPly (Escape AtPly AfterPly KeptAfter) over reaches escapes t2 in
      let calm_over = remainder_over (mask_tracks p m) (name ply m kind.Calm) (free m) reach escape a2 calm over t2 in
      let checks = check-stands ply calm check a3 (Calm AtPly AfterPly KeptAfter) fits calms t3 in
      let quiets = difference-stands ply kind.Quiet q calm check quiet a4 (Calm AtPly AfterPly KeptAfter) (Check AtPly AfterPly KeptAfter) calm_over calms checks t4 in
      let replying = pre-stands ply kind.Reply quiet replies reply a5 (Quiet AtPly AfterPly KeptAfter) AfterPly fits (λ h. sound h.is_in.is_in) quiets
      (λ o r i here takes fits_r. replied o r i here.is_in.is_in takes fits_r) t5 in
      let check_over = union_over (mask_tracks p m) (name ply m kind.Check) (free m) (bear_items rules (other side) m calm) a3 check (bear_have (other side) calm game) t3 in
      let reply_over = union_over (mask_tracks p m) (name ply m kind.Reply) (free m) (pre_items_by rules side m quiet reply) a5 replies (pre_have side quiet reply game) t5 in
      let joined = union_of_two-members (mask_tracks p m) (name ply m kind.Lost) (free m) check replies b5 s check_over reply_over r5 (tuple_of q) in (
        λ h. elim (joined.0 h) [ inl c ↦ inl (checks.0 c) | inr r ↦ inr (replying.0 r) ],
        λ h. elim h [ inl c ↦ joined.1 (inl (checks.1 c)) | inr r ↦ joined.1 (inr (replying.1 r)) ],
      )

  pub lost_or_empty : {side : Side} (ply : ℕ) {q : Position} (reach : Level) (reply rests : Opt → Level) (s : SetOf) (xs : Entries)
      (AtPly AfterPly KeptAfter : Positions)
      → Fits p side q → (AtPly q → Sound q) → IsOver (mask_tracks p (mask_of q)) (reach (mask_of q))
      → Member (reach (mask_of q)) (tuple_of q) ↔ AtPly q → LeadBy side q reply AtPly AfterPly
      → LeadBy side q rests AtPly (Rest AfterPly KeptAfter) → Takes (lost_set_if_by rules side ply reach reply rests (mask_of q)) xs (Some s)
      → Member s (tuple_of q) ↔ LostPart AtPly AfterPly KeptAfter q
  lost_or_empty ply reach reply rests s xs AtPly AfterPly KeptAfter fits sound over reaches replied rested (inl (e, o)) = none_some o
  lost_or_empty ply {q} reach reply rests s xs AtPly AfterPly KeptAfter fits sound over reaches replied rested (inr (inl (inl empty, t))) =
      let is : s ≡ Nothing = Takes-give Nothing s xs t in
      let none = λ (h : AtPly q). empty (tuple_of q) (reaches.1 h) in
      rw is (λ h. absurd h, λ h. elim h [ inl c ↦ none c.is_in.is_in | inr r ↦ none r.is_in.is_in.is_in ])
  lost_or_empty ply reach reply rests s xs AtPly AfterPly KeptAfter fits sound over reaches replied rested (inr (inl (inr never, t))) = absurd never
  lost_or_empty ply {q} reach reply rests s xs AtPly AfterPly KeptAfter fits sound over reaches replied rested (inr (inr (some, t))) =
      lost_set-stands ply (reach (mask_of q)) s reply rests xs AtPly AfterPly KeptAfter fits sound over reaches replied rested t

  -- each set of the level is over the tracks of its mask
  abbrev pub AreOver : Level → Type 0
  AreOver level = (m : ℕ) → IsOver (mask_tracks p m) (level m)

  -- the level of a loser's ply stands for what is lost
  pub lost-stands : (side : Side) (ply : ℕ) (reach reach1 kept1 level : Level) (xs : Entries) (AtPly AfterPly KeptAfter : Positions)
      → ((q : Position) → AtPly q → Sound q) → AreOver reach → AreOver reach1 → Stands p side reach AtPly → Stands p (other side) reach1 AfterPly
      → Stands p (other side) kept1 KeptAfter → Takes (lost_level rules side ply reach reach1 kept1) xs (Some level)
      → Stands p side level (LostPart AtPly AfterPly KeptAfter)
  lost-stands side ply reach reach1 kept1 level xs AtPly AfterPly KeptAfter sound over over1 reaches reaches1 keeps t q fits =
      let rest_of = rest_set rules (suc ply) reach1 kept1 in
      let (us, vs, rests, order, first, last) =
      Takes-split (for_masks (masks_of p) rest_of no_sets)
      (λ rests. for_masks (masks_of p) (lost_set_if rules side ply reach reach1 rests) no_sets) xs level t in
      let IsRest : ℕ → SetOf → Type 0 = λ m s. (ys : Entries) × Takes (rest_of m) ys (Some s) in
      let rested : Stands p (other side) rests (Rest AfterPly KeptAfter) = λ r fits_r.
      let (ys, made) = for_masks-level rest_of IsRest (masks_of p) (λ m i s zs h. (zs, h)) no_sets rests us first (mask_of r) (inr (in_masks (other side) r fits_r)) in
      difference-stands (suc ply) kind.Rest r (reach1 (mask_of r)) (kept1 (mask_of r)) (rests (mask_of r)) ys AfterPly KeptAfter (over1 (mask_of r)) (reaches1 r fits_r) (keeps r fits_r) made in
      let set_of = lost_set_if rules side ply reach reach1 rests in
      let Is : ℕ → SetOf → Type 0 = λ m s. (ys : Entries) × Takes (set_of m) ys (Some s) in
      let (ys, made) = for_masks-level set_of Is (masks_of p) (λ m i s zs h. (zs, h)) no_sets level vs last (mask_of q) (inr (in_masks side q fits)) in
      lost_or_empty ply reach (λ _. reach1) (λ _. rests) (level (mask_of q)) ys AtPly AfterPly KeptAfter fits (sound q) (over (mask_of q)) (reaches q fits)
      (λ o r i here takes fits_r. reaches1 r fits_r) (λ o r i here takes fits_r. rested r fits_r) made

  -- what the union of images has, tuple by tuple
  record IsImageTuple (side : Side) (to : ℕ) (reach : Level) (tuple : List ℤ) : Type 0 where
    mask : ℕ
    option : Opt
    in_masks : Contains (masks_of p) mask
    in_options : Contains (options_of p.men mask side) option
    target : target_of mask option ≡ to
    image : IsImageOf p side mask option (reach mask) tuple

  abbrev AreFitting : Side → Level → Type 0
  AreFitting side level = (m : ℕ) → HoldsFitting p side m (level m)

  image-tuples : (side : Side) (ply to : ℕ) (reach : Level) (s : SetOf) (xs : Entries) → AreFitting side reach
      → Takes (union rules ply to kind.Image (image_items rules side to reach)) xs (Some s) → (tuple : List ℤ)
      → Member s tuple ↔ IsImageTuple side to reach tuple
  image-tuples side ply to reach s xs fitting t tuple =
      let whole = union-members (mask_tracks p to) (name ply to kind.Image) (free to) (image_items rules side to reach) xs s (image_have side to reach) t tuple in
      let any = any-flat_map (λ m. map (image_item rules m (reach m)) (choices_into rules side m to)) (masks_of p) tuple in
      let one = λ (m : ℕ). any-map (image_item rules m (reach m)) (choices_into rules side m to) tuple in
      let kept = λ (m : ℕ) (o : Opt). contains_filter (λ c. target_of m c == to) (options_of p.men m side) o in
      let means =
      λ (m : ℕ) (o : Opt) (in_m : Contains (masks_of p) m) (j : Contains (options_of p.men m side) o).
      (mean.options side m o (game_mask m in_m) j).image 0 (λ _. reach m) tuple (fitting m) in (
        λ h.
            let (m, in_m, some) = any.0 (whole.0 h) in
            let (o, i, member) = (one m).0 some in
            let (j, e) = (kept m o).0 i in
            record { mask = m; option = o; in_masks = in_m; in_options = j; target = eqb-true (target_of m o) to e; image = (means m o in_m j).0 member },
        λ h.
            let m = h.mask in
            let o = h.option in
            let i = (kept m o).1 (h.in_options, eq-eqb (target_of m o) to h.target) in
            whole.1 (any.1 (m, h.in_masks, (one m).1 (o, i, (means m o h.in_masks h.in_options).1 h.image))),
      )

  -- each tuple of an image is one of a position that fits
  image_fitting : (side : Side) (ply to : ℕ) (reach : Level) (s : SetOf) (xs : Entries) → AreFitting side reach
      → Takes (union rules ply to kind.Image (image_items rules side to reach)) xs (Some s) → HoldsFitting p (other side) to s
  image_fitting side ply to reach s xs fitting t tuple h =
      let it = (image-tuples side ply to reach s xs fitting t tuple).0 h in
      let (q, r, fits, mask, takes, from, is) = it.image in
      let Among_them : ℕ → Type 0 = λ k. Contains (options_of p.men k side) it.option in
      let (target, fits_r) = mean.game.target side it.option q r fits (subst Among_them (sym mask) it.in_options) takes in
      let same : target_of (mask_of q) it.option ≡ to = ap (λ k. target_of k it.option) mask ∙ it.target in
      (r, fits_r, target ∙ same, is)

  -- the union of images at a position that fits
  image-stands : (side : Side) (ply : ℕ) {r : Position} (reach : Level) (s : SetOf) (xs : Entries) (AtPly : Positions) → AreFitting side reach
      → Stands p side reach AtPly → ((q : Position) → AtPly q → Fits p side q × Sound q) → Fits p (other side) r
      → Takes (union rules ply (mask_of r) kind.Image (image_items rules side (mask_of r) reach)) xs (Some s) → Member s (tuple_of r) ↔ Image AtPly r
  image-stands side ply {r} reach s xs AtPly fitting stands inside fits t =
      let tuples = image-tuples side ply (mask_of r) reach s xs fitting t (tuple_of r) in (
        λ h.
            let it = tuples.0 h in
            let (q, r', fits_q, mask, takes, from, is) = it.image in
            let o = it.option in
            let Among_them : ℕ → Type 0 = λ k. Contains (options_of p.men k side) o in
            let j = subst Among_them (sym mask) it.in_options in
            let (target, fits_r) = mean.game.target side o q r' fits_q j takes in
            let to : target_of (mask_of q) o ≡ mask_of r = ap (λ k. target_of k o) mask ∙ it.target in
            let same : r' ≡ r = mean.game.unique (other side) r' r fits_r fits (target ∙ to) is in
            let At : ℕ → Type 0 = λ k. Member (reach k) (tuple_of q) in
            let To : Position → Type 0 = λ x. TakesOption o q x in
            let is_in = (stands q fits_q).0 (subst At (sym mask) from) in
            record {
              from = q;
              is_in = is_in;
              step = (mean.game.steps side q r fits_q (inside q is_in).1).1 (o, j, subst To same takes);
            },
        λ h.
            let (fits_q, sound_q) = inside h.from h.is_in in
            let (o, j, takes) = (mean.game.steps side h.from r fits_q sound_q).0 h.step in
            let (target, fits_r) = mean.game.target side o h.from r fits_q j takes in
            tuples.1 (record {
              mask = mask_of h.from;
              option = o;
              in_masks = in_masks side h.from fits_q;
              in_options = j;
              target = sym target;
              image = (h.from, r, fits_q, refl, takes, (stands h.from fits_q).1 h.is_in, refl);
            }),
      )

  -- the set made narrower by bearings
  narrow-each : {side : Side} (ply : ℕ) {r : Position} (last : Made) → Fits p side r → (bearings : List Bearing)
      → ((b : Bearing) → Contains bearings b → BearingsMean p (mask_of r) b) → (made : Made) (xs : Entries)
      → Takes (each bearings (narrow_by rules ply (mask_of r)) made) xs (Some last)
      → Member last.0 (tuple_of r) ↔ (Member made.0 (tuple_of r) × ((b : Bearing) → Contains bearings b → BearsOnKing b r → ⊥))
  narrow-each ply last fits [] means made xs t =
      let is : last ≡ made = Takes-give made last xs t in
      rw is (λ h. (h, λ b i bears. contains_none b i), λ h. h.0)
  narrow-each {side} ply {r} last fits (b ∷ bearings) means made xs t =
      let (us, vs, next, order, first, rest) = Takes-split (narrow_by rules ply (mask_of r) b made) (each bearings (narrow_by rules ply (mask_of r))) xs last t in
      let is = make-members (name ply (mask_of r) kind.Safe) made.1 (safe_item rules (mask_of r) made.0 b) us next first in
      let safe = (means b (contains_head b bearings)).safe 0 (λ _. made.0) side r fits refl in
      let more = narrow-each ply last fits bearings (λ c i. means c (contains_rest b bearings c i)) next vs rest in (
        λ h.
            let (x, y) = more.0 h in
            let (c, d) = safe.0 ((is.same (tuple_of r)).0 x) in
            (c, λ k i bears. elim (contains_cases b bearings k i) [ inl same ↦ d (let P : Bearing → Type 0 = λ z. BearsOnKing z r in subst P (sym same) bears) | inr j ↦ y k j bears ]),
        λ (c, none). more.1 ((is.same (tuple_of r)).1 (safe.1 (c, λ bears. none b (contains_head b bearings) bears)), λ k j bears. none k (contains_rest b bearings k j) bears),
      )

  pub narrow-stands : {side : Side} (ply : ℕ) {r : Position} (s u : SetOf) → Fits p side r → (bearings : List Bearing)
      → ((b : Bearing) → Contains bearings b → BearingsMean p (mask_of r) b) → (xs : Entries)
      → Takes (narrow rules ply (mask_of r) bearings s) xs (Some u)
      → Member u (tuple_of r) ↔ (Member s (tuple_of r) × ((b : Bearing) → Contains bearings b → BearsOnKing b r → ⊥))
  narrow-stands ply {r} s u fits bearings means xs t =
      let (us, vs, last, order, first, given) = Takes-split (each bearings (narrow_by rules ply (mask_of r)) (s, 1)) (λ made. Give made.0) xs u t in
      let is : u ≡ last.0 = Takes-give last.0 u vs given in
      rw is (narrow-each ply last fits bearings means (s, 1) us first)

  each_within : (ply m : ℕ) (last : Made) (tuple : List ℤ) (bearings : List Bearing) → ((b : Bearing) → Contains bearings b → BearingsMean p m b)
      → (made : Made) (xs : Entries) → Takes (each bearings (narrow_by rules ply m) made) xs (Some last) → Member last.0 tuple → Member made.0 tuple
  each_within ply m last tuple [] means made xs t h =
      let is : last ≡ made = Takes-give made last xs t in
      let P : Made → Type 0 = λ n. Member n.0 tuple in
      subst P is h
  each_within ply m last tuple (b ∷ bearings) means made xs t h =
      let (us, vs, next, order, first, rest) = Takes-split (narrow_by rules ply m b made) (each bearings (narrow_by rules ply m)) xs last t in
      let is = make-members (name ply m kind.Safe) made.1 (safe_item rules m made.0 b) us next first in
      let later = each_within ply m last tuple bearings (λ c i. means c (contains_rest b bearings c i)) next vs rest h in
      (means b (contains_head b bearings)).safe_within 0 (λ _. made.0) tuple ((is.same tuple).0 later)

  pub narrow_within : (ply m : ℕ) (s u : SetOf) (tuple : List ℤ) (bearings : List Bearing) → ((b : Bearing) → Contains bearings b → BearingsMean p m b)
      → (xs : Entries) → Takes (narrow rules ply m bearings s) xs (Some u) → Member u tuple → Member s tuple
  narrow_within ply m s u tuple bearings means xs t h =
      let (us, vs, last, order, first, given) = Takes-split (each bearings (narrow_by rules ply m) (s, 1)) (λ made. Give made.0) xs u t in
      let is : u ≡ last.0 = Takes-give last.0 u vs given in
      let P : SetOf → Type 0 = λ n. Member n tuple in
      each_within ply m last tuple bearings means (s, 1) us first (subst P is h)

  -- what is reached at the next ply with one mask
  pub reach_set-stands : (side : Side) (ply : ℕ) (reach : Level) (s : SetOf) (xs : Entries) (AtPly : Positions) (r : Position) → AreFitting side reach
      → Stands p side reach AtPly → ((q : Position) → AtPly q → Fits p side q × Sound q) → Fits p (other side) r
      → Takes (reach_set rules side ply reach (mask_of r)) xs (Some s) → Member s (tuple_of r) ↔ Safe (Image AtPly) r
  reach_set-stands side ply reach s xs AtPly r fitting stands inside fits t =
      let m = mask_of r in
      let game = mean.game.mask_is (other side) r fits in
      let bearings = bearings_of p.men m (other side) in
      let (us, vs, moved, order, first, rest) = Takes-split (union rules ply m kind.Image (image_items rules side m reach)) (narrow rules ply m bearings) xs s t in
      let images = image-stands side ply reach moved us AtPly fitting stands inside fits first in
      let narrows = narrow-stands ply moved s fits bearings (λ b i. mean.bearings m (other side) b game i) vs rest in
      let P : Side → Type 0 = λ s. InCheck r (other s) in
      let checks = mean.game.checks (other side) (other side) r fits in (
        λ h.
            let (a, none) = narrows.0 h in
            record { is_in = images.0 a; safe = λ check. let (b, i, bears) = checks.0 (subst P fits.turn check) in none b i bears },
        λ h. narrows.1 (images.1 h.is_in, λ b i bears. h.safe (subst P (sym fits.turn) (checks.1 (b, i, bears)))),
      )

  pub reach_set_fitting : (side : Side) (ply : ℕ) (reach : Level) (m : ℕ) (s : SetOf) (xs : Entries) → Contains (masks_of p) m → AreFitting side reach
      → Takes (reach_set rules side ply reach m) xs (Some s) → HoldsFitting p (other side) m s
  reach_set_fitting side ply reach m s xs in_m fitting t tuple h =
      let bearings = bearings_of p.men m (other side) in
      let (us, vs, moved, order, first, rest) = Takes-split (union rules ply m kind.Image (image_items rules side m reach)) (narrow rules ply m bearings) xs s t in
      image_fitting side ply m reach moved us fitting first tuple (narrow_within ply m moved s tuple bearings (λ b i. mean.bearings m (other side) b (game_mask m in_m) i) vs rest h)

  pub reach_set_over : (side : Side) (ply : ℕ) (reach : Level) (m : ℕ) (s : SetOf) (xs : Entries) → Contains (masks_of p) m
      → Takes (reach_set rules side ply reach m) xs (Some s) → IsOver (mask_tracks p m) s
  reach_set_over side ply reach m s xs in_m t tuple h =
      let bearings = bearings_of p.men m (other side) in
      let (us, vs, moved, order, first, rest) = Takes-split (union rules ply m kind.Image (image_items rules side m reach)) (narrow rules ply m bearings) xs s t in
      union_over (mask_tracks p m) (name ply m kind.Image) (free m) (image_items rules side m reach) us moved (image_have side m reach) first tuple
      (narrow_within ply m moved s tuple bearings (λ b i. mean.bearings m (other side) b (game_mask m in_m) i) vs rest h)
