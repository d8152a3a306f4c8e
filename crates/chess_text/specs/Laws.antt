-- The laws of the texts: each position and each reply has exactly one spelling, and nothing else is accepted.
use Rattle.std.specs.Prelude.{◌≡◌, ◌↔◌, ℕ, List}
use Rattle.game_rules.specs.Game.{Position}
use Rattle.game_rules.specs.declared.men.Side.{Side}
use Rattle.chess_game.specs.declared.moves.Move.{Move}
use Rattle.chess_text.specs.Draft.{Draft}
use Rattle.chess_text.specs.Grammar.{positions}
use Rattle.chess_text.specs.PositionText.{Completes, Feeds, IsDraftOf, IsWritable, Turnout, draft_of, text_lines}
use Rattle.chess_text.specs.declared.grammar.Grammar.{Grammar}
use Rattle.chess_text.specs.Replies.{IsReply, IsReplyRefusal, IsTypable, move_text}
use Rattle.chess_text.specs.declared.reader.ReaderState.{ReaderState}
use Rattle.chess_text.specs.declared.reader.ReaderState.TheVariants as stage
use Rattle.chess_text.specs.declared.replies.Typed.{Typed}
use Rattle.chess_text.specs.declared.replies.Typed.TheVariants as typed
use Rattle.chess_text.specs.declared.replies.MoveWhy.{MoveWhy}

-- lines that are accepted as a text of a kind are the spelling of its contents
abbrev pub AcceptedIsSpelled : Type 0
AcceptedIsSpelled =
    (g : Grammar) (lines : List (List ℕ)) (d : Draft) → Completes g stage.Header lines d → (lines ≡ text_lines g d) × IsDraftOf g d

-- the spelling of any contents that a text of a kind may have is accepted as these contents
abbrev pub SpelledIsAccepted : Type 0
SpelledIsAccepted = (g : Grammar) (d : Draft) → IsDraftOf g d → Completes g stage.Header (text_lines g d) d

-- the contents of position texts are the positions of two to eight men with coordinates of 64 bits, and no others
abbrev pub PositionsAreWritable : Type 0
PositionsAreWritable = (p : Position) (winner : Side) → IsDraftOf positions (draft_of p winner) ↔ IsWritable p

-- a line of a text has exactly one result
abbrev pub FeedsOnce : Type 0
FeedsOnce =
    (g : Grammar) (s : ReaderState) (line : List ℕ) (one other : Turnout) → Feeds g s line one → Feeds g s line other → one ≡ other

-- the spelling of a move is a reply, and it is that move
abbrev pub SpelledMoveIsReply : Type 0
SpelledMoveIsReply = (mv : Move) → IsTypable mv → IsReply (move_text mv) (typed.Move mv)

-- a line is at most one reply, and a line that is a reply is not refused
pub record ReplyOnce : Type 0 where
  pub one : (line : List ℕ) (a b : Typed) → IsReply line a → IsReply line b → a ≡ b
  pub not_refused : (line : List ℕ) (a : Typed) (why : MoveWhy) → IsReply line a → IsReplyRefusal line why → ⊥
