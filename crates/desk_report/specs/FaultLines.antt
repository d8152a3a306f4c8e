-- Fault lines of positions.
use Rattle.std.specs.Prelude.{ℕ, List, ◌∷◌, ◌++◌, codes}
use Rattle.std.specs.Fmt.{decimal}
use Rattle.chess_game.specs.declared.unsoundness.Unsound.{Unsound}
use Rattle.chess_game.specs.declared.unsoundness.Unsound.TheVariants.{NoKing, ManyKings, KingGone, SameSquare, OtherInCheck}
use Rattle.chess_text.specs.ManLine.{side_letter}

-- the fault line of a position that is not sound
abbrev pub unsound_line : Unsound → List ℕ
unsound_line (NoKing s) = codes "unsound no king " ++ side_letter s ∷ codes "\n"
unsound_line (ManyKings s) = codes "unsound many kings " ++ side_letter s ∷ codes "\n"
unsound_line (KingGone s) = codes "unsound king gone " ++ side_letter s ∷ codes "\n"
unsound_line (SameSquare i j) = codes "unsound same square " ++ decimal i ++ codes " " ++ decimal j ++ codes "\n"
unsound_line OtherInCheck = codes "unsound other side in check\n"
