-- The text of a position and its winner, line by line.
use Rattle.std.specs.Prelude.{◌≡◌, ◌≢◌, ◌⊎◌, ℕ, ◌<◌, ◌≤◌, List, [], ◌∷◌, ◌++◌, length, map, codes, Option, Some, None, Result, Ok, Err, FitsSigned}
use Rattle.std.specs.List.{All, flat_map}
use Rattle.std.specs.Int.{w64}
use Rattle.game_rules.specs.Game.{Position}
use Rattle.game_rules.specs.declared.men.Side.{Side}
use Rattle.game_rules.specs.declared.men.Place.{Place}
use Rattle.game_rules.specs.declared.men.Place.TheVariants.{Gone, At}
use Rattle.game_rules.specs.declared.men.Man.{Man}
use Rattle.chess_text.specs.Draft.{Draft, nobody, with_man}
use Rattle.chess_text.specs.Grammar.{IsPlaceOf, positions}
use Rattle.chess_text.specs.ManLine.{man_text, turn_text, IsManLine, IsManRefusal}
use Rattle.chess_text.specs.declared.grammar.Grammar.{Grammar}
use Rattle.chess_text.specs.declared.grammar.TheConstants.{MOST_MEN}
use Rattle.chess_text.specs.declared.man_line.TextWhy.{TextWhy}
use Rattle.chess_text.specs.declared.man_line.TextWhy.TheVariants as why
use Rattle.chess_text.specs.declared.reader.ReaderState.{ReaderState}
use Rattle.chess_text.specs.declared.reader.ReaderState.TheVariants as stage

abbrev pub end_line : List ℕ
end_line = codes "end"

-- the lines of a text, in order
abbrev pub text_lines : Grammar → Draft → List (List ℕ)
text_lines g d = g.header ∷ turn_text d.turn d.winner ∷ (map man_text d.men ++ end_line ∷ [])

-- a position and its winner
abbrev pub draft_of : Position → Side → Draft
draft_of p winner = record { men = p.men; turn = p.turn; winner = winner }

-- the position in a text's contents
abbrev pub drafted : Draft → Position
drafted d = record { men = d.men; turn = d.turn }

-- the lines of the text of a position and its winner, in order
abbrev pub position_lines : Position → Side → List (List ℕ)
position_lines p winner = text_lines positions (draft_of p winner)

-- each line with its LF
abbrev pub text_of_lines : List (List ℕ) → List ℕ
text_of_lines lines = flat_map (λ line. line ++ 10 ∷ []) lines

abbrev pub position_text : Position → Side → List ℕ
position_text p winner = text_of_lines (position_lines p winner)

-- the coordinates are numbers of 64 bits
abbrev pub FitsPlace : Place → Type 0
FitsPlace Gone = Unit {0}
FitsPlace (At x y) = FitsSigned w64 x × FitsSigned w64 y

-- a position that has a text
pub record IsWritable (p : Position) : Type 0 where
  pub low : 2 ≤ length p.men
  pub high : length p.men ≤ MOST_MEN
  pub fit : All (λ m. FitsPlace m.place) p.men

-- contents that a text of this kind may have
pub record IsDraftOf (g : Grammar) (d : Draft) : Type 0 where
  pub low : 2 ≤ length d.men
  pub high : length d.men ≤ g.most_men
  pub fit : All (λ m. IsPlaceOf g m.place) d.men

-- The result of a line of a text: the text continues at a stage, or is complete, or the line is refused.
pub data Turnout : Type 0 where
  more : ReaderState → Turnout
  complete : Draft → Turnout
  wrong : TextWhy → Turnout

-- the result and the stage after it, as a Turnout
abbrev pub turnout : Result (Option Draft) TextWhy → ReaderState → Turnout
turnout (Ok None) next = more next
turnout (Ok (Some d)) next = complete d
turnout (Err reason) next = wrong reason

-- the result of a line other than the end, if the text has fewer men than it may have
abbrev pub FeedsMan : Grammar → Draft → List ℕ → Turnout → Type 0
FeedsMan g d line turnout =
    ((m : Man) × IsManLine g line m × (turnout ≡ more (stage.Men (with_man d m))))
    ⊎ ((reason : TextWhy) × IsManRefusal g line reason × (turnout ≡ wrong reason))

-- the result of a line that names a man or ends the text
abbrev pub FeedsMen : Grammar → Draft → List ℕ → Turnout → Type 0
FeedsMen g d line turnout =
    ((length d.men < 2) × (line ≡ end_line) × (turnout ≡ wrong why.TooFew))
    ⊎ ((2 ≤ length d.men) × (line ≡ end_line) × (turnout ≡ complete d))
    ⊎ ((length d.men ≡ g.most_men) × (line ≢ end_line) × (turnout ≡ wrong why.TooMany))
    ⊎ ((length d.men < g.most_men) × (line ≢ end_line) × FeedsMan g d line turnout)

-- the result of a line at a stage of a text
abbrev pub Feeds : Grammar → ReaderState → List ℕ → Turnout → Type 0
Feeds g stage.Header line turnout =
    ((line ≡ g.header) × (turnout ≡ more stage.Turn)) ⊎ ((line ≢ g.header) × (turnout ≡ wrong why.Header))
Feeds g stage.Turn line turnout =
    ((turn : Side) × (winner : Side) × (line ≡ turn_text turn winner) × (turnout ≡ more (stage.Men (nobody turn winner))))
    ⊎ (((turn winner : Side) → line ≢ turn_text turn winner) × (turnout ≡ wrong why.Turn))
Feeds g (stage.Men d) line turnout = FeedsMen g d line turnout

-- the lines complete the text, and the last of them is its end
abbrev pub Completes : Grammar → ReaderState → List (List ℕ) → Draft → Type 0
Completes g s [] d = ⊥
Completes g s (line ∷ []) d = Feeds g s line (complete d)
Completes g s (line ∷ lines) d = (next : ReaderState) × Feeds g s line (more next) × Completes g next lines d
