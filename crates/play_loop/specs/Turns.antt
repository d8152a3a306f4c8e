-- Games that a player plays against lines: the rules of a player, and the results of the start of a game and of each
-- line.
use Rattle.std.specs.Prelude.{◌≡◌, ◌⊎◌, List, ℕ, [], ◌∷◌, ◌++◌, codes, Option, Some, None, Result, Ok, Err}
use Rattle.std.specs.Io.KnownBytes.{Appends}
use Rattle.desk_base.specs.Moves.{AppendsFront}
use Rattle.desk_base.specs.declared.source.Failed.{Failed}
use Rattle.game_rules.specs.Game.{Position, Legal}
use Rattle.game_rules.specs.declared.men.Side.{Side}
use Rattle.game_rules.specs.declared.men.Side.TheVariants.{White, Black}
use Rattle.chess_game.specs.declared.moves.Move.{Move}
use Rattle.chess_text.specs.Replies.{IsReply, IsReplyRefusal, move_text}
use Rattle.chess_text.specs.declared.replies.MoveWhy.{MoveWhy}
use Rattle.chess_text.specs.declared.replies.Typed.{Typed}
use Rattle.chess_text.specs.declared.replies.Typed.TheVariants as typed
use Rattle.move_choice.specs.Choice.{target}
use Rattle.move_choice.specs.declared.choice.Choice.{Choice}
use Rattle.play_loop.specs.declared.ending.Ending.{Ending}
use Rattle.play_loop.specs.declared.ending.Ending.TheVariants.{Mated, Held, Stuck, Wide, Quit, NoLine, Many, CutAt, LongAt}
use Rattle.play_loop.specs.declared.player.GameState.{GameState}
use Rattle.play_loop.specs.declared.player.GameState.TheVariants.{Over, LineDue, ToMove}

-- The rules of a side, over the exposed state of a game: the position, the game after a move to a position, whose moves
-- the player makes, the state of the game, and the player's move, or that there is none.
pub record Rules (G : Type 0) : Type 1 where
  pub position : G → Position
  pub moved : G → Position → G
  pub side : G → Side
  pub Stands : G → GameState → Type 0
  pub Picks : G → Option Choice → Type 0

-- Valid games can be played by the rules.
pub record ArePlayable {G : Type 0} (rules : Rules G) (Kept : G → Type 0) : Type 0 where
  -- a game has at most one state, and a valid one has at least one
  pub one_standing : (g : G) (one two : GameState) → rules.Stands g one → rules.Stands g two → one ≡ two
  pub some_standing : (g : G) → Kept g → (standing : GameState) × rules.Stands g standing
  -- the player has at most one move, and not both a move and none; in a valid game he has a move, or has none
  pub one_pick : (g : G) (one two : Option Choice) → rules.Picks g one → rules.Picks g two → one ≡ two
  pub some_pick : (g : G) → Kept g → rules.Stands g ToMove → (choice : Option Choice) × rules.Picks g choice
  -- his move is legal and leads to a valid game, in which it is not his turn
  pub picks_lead :
      (g : G) (c : Choice) → rules.Picks g (Some c) → (q : Position) × Legal (rules.position g) c.mv.man (target c.mv) q
  pub picks_keep :
      (g : G) (c : Choice) (q : Position) → Kept g → rules.Stands g ToMove → rules.Picks g (Some c)
      → Legal (rules.position g) c.mv.man (target c.mv) q
      → Kept (rules.moved g q) × (rules.Stands (rules.moved g q) ToMove → ⊥)
  -- each legal move of the other side leads to a valid game
  pub typed_keep :
      (g : G) (mv : Move) (q : Position) → Kept g → rules.Stands g LineDue
      → Legal (rules.position g) mv.man (target mv) q
      → Kept (rules.moved g q)
  -- after a move the position is that one
  pub moved_to : (g : G) (q : Position) → rules.position (rules.moved g q) ≡ q

-- the move is the player's and leads from the first game to the second
abbrev pub IsMadeBy : {G : Type 0} → Rules G → G → Move → G → Type 0
IsMadeBy rules g mv after =
    (choice : Choice) × (choice.mv ≡ mv) × rules.Picks g (Some choice)
    × Legal (rules.position g) mv.man (target mv) (rules.position after)
    × (after ≡ rules.moved g (rules.position after))

-- The result of the start of a game or of a line: the text written, the game after each move of the player, the
-- resulting game, and how it ended; if it has not ended, a line is due.
pub record Turn (G : Type 0) : Type 0 where
  pub text : List ℕ
  pub games : List G
  pub after : G
  pub over : Option Ending

-- the word for an ending in the text; the other endings have a line that is not part of the text
abbrev pub ending_word : Ending → List ℕ
ending_word Mated = codes "mate\n"
ending_word Held = codes "held\n"
ending_word Stuck = codes "stuck\n"
ending_word Wide = []
ending_word Quit = []
ending_word NoLine = []
ending_word Many = []
ending_word (CutAt number) = []
ending_word (LongAt number) = []

abbrev pub side_word : Side → List ℕ
side_word White = codes "white "
side_word Black = codes "black "

-- the line for a move of the player
abbrev pub move_line : Side → Move → List ℕ
move_line side mv = side_word side ++ move_text mv ++ codes "\n"

-- this text is written, and the game does not change
abbrev pub told : {G : Type 0} → List ℕ → G → Turn G
told text g = record { text = text; games = []; after = g; over = None }

-- the game ends without a move
abbrev pub stopped : {G : Type 0} → Ending → G → Turn G
stopped ending g = record { text = ending_word ending; games = []; after = g; over = Some ending }

-- first the player's move, which leads to this game
abbrev pub moves_first : {G : Type 0} → Rules G → Move → G → Turn G → Turn G
moves_first rules mv next later =
    record {
      text = move_line (rules.side next) mv ++ later.text;
      games = next ∷ later.games;
      after = later.after;
      over = later.over;
    }

-- the game is over, or a line is due
abbrev pub AtRest : {G : Type 0} → Rules G → G → Turn G → Type 0
AtRest rules g turn =
    ((ending : Ending) × rules.Stands g (Over ending) × (turn ≡ stopped ending g))
    ⊎ (rules.Stands g LineDue × (turn ≡ told [] g))

-- it is the player's turn: he has no move, or he makes one
abbrev pub AtMove : {G : Type 0} → Rules G → G → Turn G → Type 0
AtMove {G} rules g turn =
    (rules.Picks g None × (turn ≡ stopped Wide g))
    ⊎ ((choice : Choice) × (q : Position) × (later : Turn G) × rules.Picks g (Some choice)
    × Legal (rules.position g) choice.mv.man (target choice.mv) q
    × AtRest rules (rules.moved g q) later
    × (turn ≡ moves_first rules choice.mv (rules.moved g q) later))

-- the result of a game, whatever its state
abbrev pub Comes : {G : Type 0} → Rules G → G → Turn G → Type 0
Comes rules g turn = AtRest rules g turn ⊎ (rules.Stands g ToMove × AtMove rules g turn)

-- the result of a typed move: it is illegal, and this is reported, or it is made
abbrev pub OfMove : {G : Type 0} → Rules G → G → Move → Turn G → Type 0
OfMove rules g mv turn =
    (((q : Position) → Legal (rules.position g) mv.man (target mv) q → ⊥) × (turn ≡ told (codes "illegal\n") g))
    ⊎ ((q : Position) × Legal (rules.position g) mv.man (target mv) q × Comes rules (rules.moved g q) turn)

-- the result of what was typed; `None` is a line that cannot be read
abbrev pub OfTyped : {G : Type 0} → Rules G → G → Option Typed → Turn G → Type 0
OfTyped rules g None turn = turn ≡ told (codes "unreadable\n") g
OfTyped rules g (Some typed.Quit) turn = turn ≡ stopped Quit g
OfTyped rules g (Some (typed.Move mv)) turn = OfMove rules g mv turn

-- the line is this reply, or, for None, no reply
abbrev pub IsTyped : List ℕ → Option Typed → Type 0
IsTyped line (Some reply) = IsReply line reply
IsTyped line None = (why : MoveWhy) × IsReplyRefusal line why

-- the result of a line
abbrev pub OfLine : {G : Type 0} → Rules G → G → List ℕ → Turn G → Type 0
OfLine rules g line turn = (reply : Option Typed) × IsTyped line reply × OfTyped rules g reply turn

-- A turn is made: its text is written, and the game and its end are as it says. If the sink fails, a prefix of its text
-- is written.
abbrev pub IsTurnMade :
    {G : Type 0} → (Turn G → Type 0) → Result (Option Ending) Failed → (after : G) → (old new : Option (List ℕ)) → Type 0
IsTurnMade {G} May (Ok over) after old new =
    (turn : Turn G) × May turn × (turn.over ≡ over) × (turn.after ≡ after) × Appends old new turn.text
IsTurnMade {G} May (Err why) after old new = (turn : Turn G) × May turn × AppendsFront old new turn.text
