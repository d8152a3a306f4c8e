-- The squares with coordinates of 64 bits.
use Rattle.std.specs.Prelude.{◌-◌, ◌^◌, pos, negsuc}
use Rattle.chess_game.specs.declared.way.Frame.{Frame}

-- all squares whose coordinates are numbers of 64 bits
abbrev pub all_squares : Frame
all_squares =
    record {
      x_low = negsuc (2 ^ 63 - 1);
      x_high = pos (2 ^ 63 - 1);
      y_low = negsuc (2 ^ 63 - 1);
      y_high = pos (2 ^ 63 - 1);
    }
