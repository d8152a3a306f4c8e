-- Texts and the blanks in them.
use Rattle.std.specs.Prelude.{◌≢◌, ℕ, List}
use Rattle.std.specs.List.{All}

-- no byte of the text is a blank
abbrev pub HasNoBlank : List ℕ → Type 0
HasNoBlank text = All (λ byte. byte ≢ 32) text
