-- What stands after a path, and after one more move.
use Rattle.std.proofs.Common.{◌≡◌, ◌≢◌, ◌≤◌, ℕ, zero, suc, List, ◌∷◌, length, pos, refl, sym, ap, ◌∙◌, subst, arith}
use Rattle.std.specs.Prelude.{Contains}
use Rattle.std.specs.List.{All}
use Rattle.game_rules.specs.Game.{Position, other}
use Rattle.game_rules.specs.declared.men.Man.{Man}
use Rattle.game_rules.specs.declared.men.Side.{Side}
use Rattle.track_word.specs.declared.atoms.Rel.TheVariants.{Eq}
use Rattle.lin_formula.specs.Tree.{Not, Tree}
use Rattle.rule_formula.specs.declared.opt.Bearing.{Bearing}
use Rattle.rule_formula.specs.declared.opt.Opt.{Opt}
use Rattle.rule_formula.specs.Bearings.{bearings_of}
use Rattle.rule_formula.specs.Meaning.{IsPrey}
use Rattle.rule_formula.specs.Placed.{is_live}
use Rattle.rule_formula.specs.Trees.{ray_at}
use Rattle.rule_formula.proofs.BearLemmas.{IsNumber, stock_number}
use Rattle.rule_formula.proofs.ListTheorem.{options_are}
use Rattle.line_formula.specs.declared.gap.Gap.{Gap}
use Rattle.line_formula.specs.declared.leg.Leg.{Leg}
use Rattle.line_formula.specs.declared.scene.Force.{Force}
use Rattle.line_formula.specs.Atoms.{gap_tree}
use Rattle.line_formula.specs.Paths.{bear_after, dangers_at, leg_of, legs_at, legs_of, mask_at, options_at, threats_at, turn_at}
use Rattle.line_formula.specs.Places.{home}
use Rattle.line_formula.specs.Rules.{across, bear, on_way, upward}
use Rattle.line_formula.specs.Small.{AreTwo, IsSmallLeg, IsSmallRay}
use Rattle.line_formula.proofs.PathTheorem.{legs-length}
use Rattle.line_engine.specs.declared.path.PathNode.{PathNode}
use Rattle.line_engine.specs.declared.path.PathStep.{PathStep}
use Rattle.line_engine.specs.Answers.{IsPartOf}
use Rattle.line_engine.specs.Nodes.{IsAfterPath, position_of}
use Rattle.line_engine.proofs.PartLemmas.{AreLegs, bear_is, capture_is, legs_small, off_way_is, ray_small}

-- the legs of a path are few, with small steps
pub path_legs : (p : Position) (path : List Opt) (legs : List Leg) (force : Force) → IsAfterPath p path legs force → AreLegs (length path) legs
path_legs p path legs force h =
    let count = legs-length p.men path in
    let same = ap (λ xs. length xs) h.legs_are in
    let few = h.few in
    record { small = subst (All IsSmallLeg) (sym h.legs_are) (legs_small p.men path); within = omega (arith, same, count); few = omega (arith, few) }

pub path_count : (p : Position) (path : List Opt) (legs : List Leg) (force : Force) → IsAfterPath p path legs force → length legs ≡ length path
path_count p path legs force h = ap (λ xs. length xs) h.legs_are ∙ legs-length p.men path

pub node_legs : (node : PathNode) → AreLegs (length node.path.now) node.legs.now
node_legs node = path_legs (position_of node.crowd) node.path.now node.legs.now node.force node.is

pub node_count : (node : PathNode) → length node.legs.now ≡ length node.path.now
node_count node = path_count (position_of node.crowd) node.path.now node.legs.now node.force node.is

pub node_few : (node : PathNode) → length node.path.now ≤ 6
node_few node = let few = node.is.few in omega (arith, few)

-- the legs after one more move
legs_more : (men men_after : List Man) (path path_after : List Opt) (legs legs_after : List Leg) (option : Opt) (leg : Leg)
    → legs ≡ legs_of men path → legs_after ≡ legs_of men_after path_after → men_after ≡ men → path_after ≡ option ∷ path → leg ≡ leg_of men option
    → legs_after ≡ leg ∷ legs
legs_more men men_after path path_after legs legs_after option leg before after men_same path_is leg_is =
    after ∙ ap (λ ms. legs_of ms path_after) men_same ∙ ap (λ s. legs_of men s) path_is
    ∙ ap (λ (xs : List Leg). leg_of men option ∷ xs) (sym before) ∙ ap (λ (l : Leg). l ∷ legs) (sym leg_is)

pub step_legs : (step : PathStep) → step.after.legs.now ≡ step.leg ∷ step.before.legs.now
step_legs step =
    legs_more step.before.crowd.men.now step.after.crowd.men.now step.before.path.now step.after.path.now step.before.legs.now step.after.legs.now
    step.option step.leg step.before.is.legs_are step.after.is.legs_are step.men step.path step.leg_is

pub step_place : (step : PathStep) → position_of step.after.crowd ≡ position_of step.before.crowd
step_place step = λ i. record { men = step.men i; turn = step.turn i }

pub step_small : (step : PathStep) → IsSmallRay step.leg.ray
step_small step =
    subst (λ (l : Leg). IsSmallRay l.ray) (sym step.leg_is) (ray_small step.before.crowd.men.now step.option.man step.option.ray)

-- the parts of the step, over the distances after it
legs_after : (step : PathStep) → AreLegs (length step.after.path.now) (step.leg ∷ step.before.legs.now)
legs_after step = subst (AreLegs (length step.after.path.now)) (step_legs step) (node_legs step.after)

count_after : (step : PathStep) → suc (length step.before.legs.now) ≡ length step.after.path.now
count_after step = sym (ap (λ xs. length xs) (step_legs step)) ∙ node_count step.after

pub step_off : (step : PathStep) (number : ℕ)
    → IsPartOf (length step.after.path.now) (length step.after.path.now) (Not (on_way (home step.before.crowd.men.now) step.before.legs.now step.leg number))
step_off step number =
    let n : ℕ = suc (length step.before.legs.now) in
    let after : AreLegs n (step.leg ∷ step.before.legs.now) = subst (λ k. AreLegs k (step.leg ∷ step.before.legs.now)) (sym (count_after step)) (legs_after step) in
    let before : AreLegs (length step.before.path.now) step.before.legs.now = node_legs step.before in
    subst (λ k. IsPartOf k k (Not (on_way (home step.before.crowd.men.now) step.before.legs.now step.leg number))) (count_after step)
    (off_way_is (home step.before.crowd.men.now) step.before.legs.now step.leg after before.small (step_small step) number)

-- the code's formula of it
pub hit_tree : (step : PathStep) (number : ℕ) (men : List Man) (legs : List Leg) (hit : Tree) → men ≡ step.before.crowd.men.now → legs ≡ step.before.legs.now
    → hit ≡ on_way (home men) legs step.leg number → hit ≡ on_way (home step.before.crowd.men.now) step.before.legs.now step.leg number
hit_tree step number men legs hit men_is legs_is is =
    is ∙ ap (λ ms. on_way (home ms) legs step.leg number) men_is ∙ ap (λ ls. on_way (home step.before.crowd.men.now) ls step.leg number) legs_is

pub step_captures : (step : PathStep) (a b : ℕ)
    → IsPartOf (length step.after.path.now) (length step.after.path.now) (gap_tree (home step.before.crowd.men.now) (step.leg ∷ step.before.legs.now) (across a b) Eq (pos 0))
    × IsPartOf (length step.after.path.now) (length step.after.path.now) (gap_tree (home step.before.crowd.men.now) (step.leg ∷ step.before.legs.now) (upward a b) Eq (pos 0))
step_captures step a b = capture_is (home step.before.crowd.men.now) (step.leg ∷ step.before.legs.now) (legs_after step) a b

-- the code's formula of one
pub capture_tree : (step : PathStep) (gap : Gap) (men : List Man) (legs : List Leg) (t : Tree) → men ≡ step.after.crowd.men.now → legs ≡ step.after.legs.now
    → t ≡ gap_tree (home men) legs gap Eq (pos 0) → t ≡ gap_tree (home step.before.crowd.men.now) (step.leg ∷ step.before.legs.now) gap Eq (pos 0)
capture_tree step gap men legs t men_is legs_is is =
    is ∙ ap (λ ms. gap_tree (home ms) legs gap Eq (pos 0)) (men_is ∙ step.men)
    ∙ ap (λ ls. gap_tree (home step.before.crowd.men.now) ls gap Eq (pos 0)) (legs_is ∙ step_legs step)

-- that a man bears on a king after the path, and that he does not
abbrev pub bears_at : PathNode → Bearing → Tree
bears_at node b = bear_after (position_of node.crowd) node.path.now b

pub node_bears : (node : PathNode) (b : Bearing)
    → IsPartOf (length node.path.now) (length node.path.now) (bears_at node b) × IsPartOf (length node.path.now) (length node.path.now) (Not (bears_at node b))
node_bears node b =
    let men = node.crowd.men.now in
    let live = is_live (mask_at (position_of node.crowd) node.path.now) in
    let legs : AreLegs (length node.path.now) (legs_at (position_of node.crowd) node.path.now) =
    subst (AreLegs (length node.path.now)) node.is.legs_are (node_legs node) in
    let most = node.crowd.is.most in
    bear_is (home men) (legs_at (position_of node.crowd) node.path.now) legs live (length men) (omega (arith, most)) (ray_at men b.man b.ray) (ray_small men b.man b.ray) b.man b.king

-- the code's formula of it
pub bears_tree : (node : PathNode) (b : Bearing) (scene_men : List Man) (scene_legs : List Leg) (t : Tree) → scene_men ≡ node.crowd.men.now → scene_legs ≡ node.legs.now
    → t ≡ bear (home scene_men) scene_legs (is_live node.force.mask) (length scene_men) (ray_at scene_men b.man b.ray) b.man b.king
    → t ≡ bears_at node b
bears_tree node b scene_men scene_legs t men legs is =
    is
    ∙ ap (λ ms. bear (home ms) scene_legs (is_live node.force.mask) (length ms) (ray_at ms b.man b.ray) b.man b.king) men
    ∙ ap (λ ls. bear (home node.crowd.men.now) ls (is_live node.force.mask) (length node.crowd.men.now) (ray_at node.crowd.men.now b.man b.ray) b.man b.king) (legs ∙ node.is.legs_are)
    ∙ ap (λ m. bear (home node.crowd.men.now) (legs_at (position_of node.crowd) node.path.now) (is_live m) (length node.crowd.men.now)
    (ray_at node.crowd.men.now b.man b.ray) b.man b.king) node.is.mask

-- the rays along which men may bear on either king
pub dangers_are : (node : PathNode) → bearings_of node.crowd.men.now node.force.mask node.force.side ≡ dangers_at (position_of node.crowd) node.path.now
dangers_are node =
    ap (λ m. bearings_of node.crowd.men.now m node.force.side) node.is.mask
    ∙ ap (λ t. bearings_of node.crowd.men.now (mask_at (position_of node.crowd) node.path.now) t) node.is.side

pub threats_are : (node : PathNode) → bearings_of node.crowd.men.now node.force.mask (other node.force.side) ≡ threats_at (position_of node.crowd) node.path.now
threats_are node =
    ap (λ m. bearings_of node.crowd.men.now m (other node.force.side)) node.is.mask
    ∙ ap (λ t. bearings_of node.crowd.men.now (mask_at (position_of node.crowd) node.path.now) (other t)) node.is.side

-- the mover of an option, and the man that is taken
pub option_man : (p : Position) (s : List Opt) (o : Opt) → Contains (options_at p s) o → IsNumber p.men o.man
option_man p s o listed =
    let w = (options_are p.men (mask_at p s) (turn_at p s) o).0 listed in stock_number p.men o.man w.0.man w.0.is.is_man

prey_number : (men : List Man) (mask : ℕ) (side : Side) (t : ℕ) → t ≢ 0 → IsPrey men mask side t → IsNumber men t
prey_number men mask side zero some prey = absurd (some refl)
prey_number men mask side (suc t) some prey = stock_number men (suc t) prey.0 prey.1

pub option_two : (p : Position) (s : List Opt) (o : Opt) → Contains (options_at p s) o → o.taken ≢ 0 → AreTwo p.men o.taken o.man
option_two p s o listed some =
    let w = (options_are p.men (mask_at p s) (turn_at p s) o).0 listed in
    let man = option_man p s o listed in
    let prey = prey_number p.men (mask_at p s) w.0.man.side o.taken some w.0.is.prey in
    record { first = prey.low; first_is = prey.high; second = man.low; second_is = man.high }

pub step_two : (step : PathStep) → Contains (options_at (position_of step.before.crowd) step.before.path.now) step.option → step.option.taken ≢ 0
    → AreTwo step.after.crowd.men.now step.option.taken step.leg.man
step_two step listed some =
    let two = option_two (position_of step.before.crowd) step.before.path.now step.option listed some in
    subst (λ men. AreTwo men step.option.taken step.leg.man) (sym step.men)
    (subst (λ (l : Leg). AreTwo step.before.crowd.men.now step.option.taken l.man) (sym step.leg_is) two)

pub step_man : (step : PathStep) (number : ℕ) → Contains (options_at (position_of step.before.crowd) step.before.path.now) step.option → 1 ≤ number
    → number ≤ length step.before.crowd.men.now
    → AreTwo step.before.crowd.men.now step.leg.man number
step_man step number listed low high =
    let man = option_man (position_of step.before.crowd) step.before.path.now step.option listed in
    subst (λ (l : Leg). AreTwo step.before.crowd.men.now l.man number) (sym step.leg_is) (record { first = man.low; first_is = man.high; second = low; second_is = high })
