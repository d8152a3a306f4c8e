-- Properties of one of a man's rays together with the aim of his moves. Distances are counted in steps of the ray.
use Rattle.std.specs.Prelude.{ℕ, IsSomeAnd, IsTrue, MatchOption, Option}
use Rattle.auto_core.specs.Automaton.{Automaton}
use Rattle.game_rules.specs.Game.{man_at}
use Rattle.game_rules.specs.Rays.{serves_moves}
use Rattle.game_rules.specs.declared.men.Square.{Square}
use Rattle.chess_game.specs.Way.{IsHit}
use Rattle.mask_sets.specs.Sets.{IsIn}
use Rattle.move_choice.specs.Aims.{IsFreeBetween, IsHitAlong, IsMet}
use Rattle.move_choice.specs.Along.{CaptureAlong, IsClearForever, IsClearTo, LeadsAnywhere, LeadsInside, QuietAlong}
use Rattle.move_choice.specs.Choice.{FirstAsAimed, IsAlongRay, IsCapture, IsQuiet}
use Rattle.move_choice.specs.declared.aim.AimedRay.{AimedRay}
use Rattle.move_choice.specs.declared.choice.Choice.{Choice}

-- the ray serves moves onto an empty square
abbrev pub ServesMoves : AimedRay → Type 0
ServesMoves a = IsSomeAnd (man_at a.aim.now.position.now a.his.man) (λ m. IsTrue (serves_moves m.kind a.his.number))

-- the man may go over empty squares to an empty square of the frame exactly at the distances from the first to the
-- second
abbrev pub MayGoBetween : AimedRay → ℕ → ℕ → Type 0
MayGoBetween a near far = IsFreeBetween a.aim.now.position.now a.his.man a.his.ray a.aim.now.frame near far

-- man h is the first man that he meets in the frame
abbrev pub Meets : AimedRay → ℕ → Type 0
Meets a h = IsHit a.aim.now.position.now a.his.man a.his.ray a.aim.now.frame h

-- this is the first man that he meets, or he meets none
abbrev pub MeetsFirst : AimedRay → Option ℕ → Type 0
MeetsFirst a met = MatchOption met ((h : ℕ) → Meets a h → ⊥) (Meets a)

-- the first man that he meets stands on the square
abbrev pub MeetsOn : AimedRay → Square → Type 0
MeetsOn a z = IsMet a.aim.now.position.now a.his.man a.his.ray a.aim.now.frame z

-- on the whole board he may go over empty squares exactly at the distances from 1 to the last one, or at all distances
abbrev pub MayGoTo : AimedRay → ℕ → Type 0
MayGoTo a last = IsClearTo a.aim.now.position.now a.his.man a.his.ray last

abbrev pub MayGoOn : AimedRay → Type 0
MayGoOn a = IsClearForever a.aim.now.position.now a.his.man a.his.ray

-- the coordinates after his move of this distance are in the set
abbrev pub Hits : Automaton → AimedRay → ℕ → Type 0
Hits set a distance = IsHitAlong set a.aim.now.position.now a.his.man a.his.ray distance

-- his move of this distance leads into the sets, on the whole board: any move, one to an empty square, or a capture
abbrev pub MoveInto : AimedRay → ℕ → Type 0
MoveInto a distance = LeadsAnywhere (IsIn a.aim.now.sets.now) a.aim.now.position.now a.his.man a.his.number distance

abbrev pub QuietInto : AimedRay → ℕ → Type 0
QuietInto a distance = QuietAlong (IsIn a.aim.now.sets.now) a.aim.now.position.now a.his.man a.his.number distance

abbrev pub CaptureInto : AimedRay → ℕ → Type 0
CaptureInto a distance = CaptureAlong (IsIn a.aim.now.sets.now) a.aim.now.position.now a.his.man a.his.number distance

-- his move of this distance leads into the sets and to a square of the frame
abbrev pub LeadsAsAimed : AimedRay → ℕ → Type 0
LeadsAsAimed a distance =
    LeadsInside a.aim.now.frame (IsIn a.aim.now.sets.now) a.aim.now.position.now a.his.man a.his.number distance

-- this is the first of his moves along the ray that does, or there is none: of all moves, of those to an empty square,
-- and of the captures
abbrev pub FirstMove : AimedRay → Option Choice → Type 0
FirstMove a found = FirstAsAimed a.aim.now (IsAlongRay a.his.man a.his.number) found

abbrev pub FirstQuiet : AimedRay → Option Choice → Type 0
FirstQuiet a found = FirstAsAimed a.aim.now (IsQuiet a.aim.now.position.now a.his.man a.his.number) found

abbrev pub FirstCapture : AimedRay → Option Choice → Type 0
FirstCapture a found = FirstAsAimed a.aim.now (IsCapture a.aim.now.position.now a.his.man a.his.number) found
