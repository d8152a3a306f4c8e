-- The lines of replies.
use Rattle.std.specs.Prelude.{◌≡◌, ◌⊎◌, ℕ, ◌+◌, ◌≤◌, List, ◌∷◌, codes, FitsSigned}
use Rattle.std.specs.Int.{w64}
use Rattle.chess_game.specs.declared.moves.Move.{Move}
use Rattle.chess_text.specs.Fields.{HasTwoFields, HasNoNumber, pair_text}
use Rattle.chess_text.specs.declared.replies.Typed.{Typed}
use Rattle.chess_text.specs.declared.replies.Typed.TheVariants as typed
use Rattle.chess_text.specs.declared.replies.MoveWhy.{MoveWhy}
use Rattle.chess_text.specs.declared.replies.MoveWhy.TheVariants as why

-- the digit of a man's number
abbrev pub man_digit : ℕ → ℕ
man_digit man = 48 + man

-- the text of a move: the man's number and the coordinates of the square that he goes to
abbrev pub move_text : Move → List ℕ
move_text mv = man_digit mv.man ∷ 32 ∷ pair_text mv.x mv.y

-- a move that a reply can name
pub record IsTypable (mv : Move) : Type 0 where
  pub first : 1 ≤ mv.man
  pub last : mv.man ≤ 8
  pub right : FitsSigned w64 mv.x
  pub up : FitsSigned w64 mv.y

-- the line is this reply
abbrev pub IsReply : List ℕ → Typed → Type 0
IsReply line (typed.Move mv) = (line ≡ move_text mv) × IsTypable mv
IsReply line typed.Quit = line ≡ codes "quit"

-- a digit from 1 to 8, a blank, and a text with the property
pub record HasDigit (P : List ℕ → Type 0) (line : List ℕ) : Type 0 where
  pub man : ℕ
  pub first : 1 ≤ man
  pub last : man ≤ 8
  pub rest : List ℕ
  pub front : line ≡ man_digit man ∷ 32 ∷ rest
  pub shape : P rest

-- this is the first reason why the line is not a reply
abbrev pub IsReplyRefusal : List ℕ → MoveWhy → Type 0
IsReplyRefusal line why.Shape = ((line ≡ codes "quit") ⊎ HasDigit HasTwoFields line) → ⊥
IsReplyRefusal line why.Number = HasDigit HasNoNumber line
