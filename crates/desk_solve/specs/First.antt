-- The report of `first`.
use Rattle.std.specs.Prelude.{◌≡◌, ◌⊎◌, ℕ, zero, suc, ◌≤◌, List, [], ◌++◌, length, Option, Some, None, codes}
use Rattle.std.specs.Fmt.{decimal, signed_decimal}
use Rattle.auto_search.specs.declared.few.Few.{Few}
use Rattle.auto_search.specs.declared.few.Few.TheVariants.{One}
use Rattle.desk_base.specs.Files.{Files}
use Rattle.game_rules.specs.Game.{Position, man_at, other}
use Rattle.game_rules.specs.Rays.{rays_of}
use Rattle.game_rules.specs.declared.men.Man.{Man}
use Rattle.game_rules.specs.declared.men.Side.{Side}
use Rattle.move_choice.specs.Squares.{all_squares}
use Rattle.winner_session.specs.Firsts.{Firsts, IsFirstLine}
use Rattle.winner_session.specs.Game.{HasRoom}
use Rattle.winner_session.specs.declared.first_line.FirstLine.{FirstLine}
use Rattle.winning_sets.specs.Solve.{Solution}
use Rattle.winning_sets.specs.declared.origin.Origin.TheVariants.{Plan}
use Rattle.desk_report.specs.Outcome.{Report, done_with}
use Rattle.desk_verdict.specs.Verdict.{WithinBudget}
use Rattle.desk_text.specs.declared.problem.Problem.{Problem}
use Rattle.desk_text.specs.declared.problem.Task.{Task}

-- the winner has no first move: he has no moves left, or it is the loser's turn
abbrev pub HasNoFirstMove : ℕ → Problem → Type 0
HasNoFirstMove n problem = (n ≡ 0) ⊎ (problem.position.turn ≡ other problem.winner)

-- it is the winner's turn, and he has a move left
abbrev pub MayMoveFirst : Task → Type 0
MayMoveFirst task = ¬ HasNoFirstMove task.moves task.problem

-- the least distance to a square of 64 bits, or that there is none
abbrev pub distance_word : Option ℕ → List ℕ
distance_word (Some distance) = decimal distance
distance_word None = codes "wide"

-- whether there are several distances
abbrev pub few_word : Few → List ℕ
few_word One = codes "only"
few_word _ = codes "more"

-- the line of a ray
abbrev pub line_of : FirstLine → List ℕ
line_of line =
    codes "man " ++ decimal line.man ++ codes " step " ++ signed_decimal line.dx ++ codes " " ++ signed_decimal line.dy
    ++ codes " least " ++ distance_word line.least ++ codes " " ++ few_word line.few ++ codes "\n"

-- the text of a ray: its line if the man has a first move along it, and nothing otherwise
abbrev pub RayText : Side → ℕ → Position → (man ray : ℕ) → List ℕ → Type 0
RayText winner n p man ray text =
    (((distance : ℕ) → Firsts winner n p man ray distance → ⊥) × (text ≡ []))
    ⊎ ((line : FirstLine) × IsFirstLine all_squares winner n p man ray line × (text ≡ line_of line))

-- the concatenation of the first n texts
unfoldable pub Listed : (ℕ → List ℕ → Type 0) → ℕ → List ℕ → Type 0
Listed Of zero text = text ≡ []
Listed Of (suc k) text = (front : List ℕ) × (last : List ℕ) × Listed Of k front × Of k last × (text ≡ front ++ last)

-- the number of rays of a man
abbrev pub rays_for : Option Man → ℕ
rays_for None = 0
rays_for (Some m) = length (rays_of m.kind m.side)

-- the number of rays of the man of this number
abbrev pub ray_total : Position → ℕ → ℕ
ray_total p man = rays_for (man_at p man)

-- the text of a man: those of his rays
abbrev pub ManText : Side → ℕ → Position → (man : ℕ) → List ℕ → Type 0
ManText winner n p man = Listed (RayText winner n p man) (ray_total p man)

-- the text of all men
abbrev pub MenText : Side → ℕ → Position → List ℕ → Type 0
MenText winner n p = Listed (λ before. ManText winner n p (suc before)) (length p.men)

-- the lines of the winner's first moves, by man and ray, and a last line
abbrev pub AreLines : Side → ℕ → Position → List ℕ → Type 0
AreLines winner n p told = (text : List ℕ) × MenText winner n p text × (told ≡ text ++ codes "end\n")

-- these lines, or the first step that exceeds the budget
abbrev pub LinesReport : ℕ → ℕ → Problem → Files → Report → Type 0
LinesReport n budget problem files =
    WithinBudget n budget problem
    (λ report. (told : List ℕ) × AreLines problem.winner n problem.position told × (report ≡ done_with files told)) files

-- the last line alone if the winner has no first move, and the report of his first moves otherwise
abbrev pub FirstReports : ℕ → ℕ → Problem → Files → Report → Type 0
FirstReports n budget problem files report =
    (HasNoFirstMove n problem × (report ≡ done_with files (codes "end\n")))
    ⊎ ((¬ HasNoFirstMove n problem) × LinesReport n budget problem files report)

-- the relation, of the winner, the number of moves and the position of a solved position
abbrev pub OfSolved : {A : Type 1} → (Side → ℕ → Position → A) → Solution → A
OfSolved this s = this s.winner s.moves s.position

-- a text with the property was appended
abbrev pub Adds : (List ℕ → Type 0) → (old new : List ℕ) → Type 0
Adds Of old new = (added : List ℕ) × Of added × (new ≡ old ++ added)

-- the sets of a solved position come from a plan, it is its winner's turn and he has a move left, and a search with
-- this number of states has room for all its sets
pub record IsServed (states : ℕ) (s : Solution) : Type 0 where
  pub plan : s.origin ≡ Plan
  pub turn : s.position.turn ≡ s.winner
  pub moves : 1 ≤ s.moves
  pub room : HasRoom states s
