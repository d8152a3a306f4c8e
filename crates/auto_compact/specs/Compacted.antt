-- Automata that differ only in their nodes.
use Rattle.std.specs.Prelude.{◌≡◌}
use Rattle.auto_core.specs.Automaton.{Automaton}

-- the result has the tracks, tables and flags of the automaton
pub record HasSameTables (of made : Automaton) : Type 0 where
  pub tracks : made.tracks ≡ of.tracks
  pub first : made.first ≡ of.first
  pub next : made.next ≡ of.next
  pub accept : made.accept ≡ of.accept
