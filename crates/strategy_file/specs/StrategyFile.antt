-- Strategy files, field by field.
use Rattle.std.specs.Prelude.{◌≡◌, ◌⊎◌, ℕ, List, length, map, Result, Err}
use Rattle.std.specs.Int.{w8}
use Rattle.std.specs.List.{flat_map}
use Rattle.track_word.specs.declared.tracks.Var.{Var}
use Rattle.game_rules.specs.Game.{Position, SoundWithKings}
use Rattle.game_rules.specs.declared.men.Side.{Side}
use Rattle.rule_formula.specs.Fits.{masks_of}
use Rattle.rule_formula.specs.Mean.{mask_tracks}
use Rattle.mate_plan.specs.Claim.{Claim, ClaimedSet, losers_plies}
use Rattle.strategy_file.specs.declared.version.Version.{Version}
use Rattle.strategy_file.specs.declared.refusal.ByteWhy.TheVariants as why
use Rattle.strategy_file.specs.Layout.{Refusal, Byte, Layout, Give, ◌>>=◌, one, between, each, Reads, IsFileEnd}
use Rattle.strategy_file.specs.Men.{Start, start_layout}
use Rattle.strategy_file.specs.Tables.{Table, table_of, table_layout}

-- the table of a ply and a mask
pub record Chart : Type 0 where
  pub ply : ℕ
  pub mask : ℕ
  pub tracks : List Var
  pub table : Table

pub record Charts : Type 0 where
  pub position : Position
  pub winner : Side
  pub moves : ℕ
  pub sets : List Chart

abbrev pub chart_of : ClaimedSet → Chart
chart_of c = record { ply = c.ply; mask = c.mask; tracks = c.set.tracks; table = table_of c.set }

abbrev pub charts_of : Claim → Charts
charts_of c = record { position = c.position; winner = c.winner; moves = c.moves; sets = map chart_of c.sets }

abbrev pub chart_with : Position → ℕ × ℕ → Table → Chart
chart_with p place table = record { ply = place.0; mask = place.1; tracks = mask_tracks p place.1; table = table }

unfoldable pub chart_layout : Version → Position → ℕ × ℕ → Layout Chart
chart_layout version p place = do
  ply ← one (between w8 place.0 place.0 why.Ply)
  mask ← one (between w8 place.1 place.1 why.Men)
  table ← table_layout version (length (mask_tracks p place.1))
  Give (chart_with p place table)

-- each of the plies with each of the masks
abbrev pub places_with : List ℕ → List ℕ → List (ℕ × ℕ)
places_with plies masks = flat_map (λ ply. map (λ mask. (ply, mask)) masks) plies

-- the plies of the loser in ascending order, each with every mask in ascending order
abbrev pub places_of : Side → Position → ℕ → List (ℕ × ℕ)
places_of winner p moves = places_with (losers_plies winner p.turn moves) (masks_of p)

-- the tables of all these plies and masks
abbrev pub sets_layout : Start → Layout (List Chart)
sets_layout start = each (places_of start.winner start.position start.moves) (chart_layout start.version start.position)

abbrev pub charts_with : Start → List Chart → Charts
charts_with start sets = record { position = start.position; winner = start.winner; moves = start.moves; sets = sets }

unfoldable pub charts_layout : Start → Layout Charts
charts_layout start = do
  sets ← sets_layout start
  Give (charts_with start sets)

-- the sets of the claim follow and nothing follows them, or this is the first reason why not
abbrev pub SetsFollow : Start → ℕ → List ℕ → Result Charts Refusal → Type 0
SetsFollow start at bytes outcome = Reads (charts_layout start) IsFileEnd at bytes outcome

-- after the men the position must be sound with a king on each side
abbrev pub GoesOn : Start → ℕ → List ℕ → Result Charts Refusal → Type 0
GoesOn start at bytes outcome =
    ((SoundWithKings start.position → ⊥) × (outcome ≡ Err (Byte at why.Unsound)))
    ⊎ (SoundWithKings start.position × SetsFollow start at bytes outcome)

-- the bytes are the file of a claim with these tables, or this is the first reason why they are not a file
abbrev pub File : List ℕ → Result Charts Refusal → Type 0
File bytes outcome = Reads start_layout GoesOn 0 bytes outcome
