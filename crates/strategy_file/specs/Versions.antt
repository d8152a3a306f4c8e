-- Versions of strategy files, and the greatest values of the bytes that both have.
use Rattle.std.specs.Prelude.{ℕ, zero, suc}
use Rattle.strategy_file.specs.declared.version.Version.{Version}
use Rattle.strategy_file.specs.declared.version.Version.TheVariants.{Dense, Shared}

abbrev pub version_of : ℕ → Version
version_of zero = Dense
version_of (suc zero) = Dense
version_of (suc (suc n)) = Shared

abbrev pub version_byte : Version → ℕ
version_byte Dense = 1
version_byte Shared = 2

-- of the side to move and the winner; the winner is White in version 1
abbrev pub most_turn : Version → ℕ
most_turn Dense = 1
most_turn Shared = 3

-- of the number of men
abbrev pub most_men : Version → ℕ
most_men Dense = 5
most_men Shared = 8

-- of the kind of a man; version 1 has the six kinds of chess
abbrev pub most_kind : Version → ℕ
most_kind Dense = 5
most_kind Shared = 9
