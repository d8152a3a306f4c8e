-- How the men of a text are stored while it is read.
use Rattle.std.specs.Prelude.{◌≡◌, ◌≤◌, length}
use Rattle.chess_text.specs.declared.draft.TheConstants.{MOST_READ}
use Rattle.chess_text.specs.declared.draft.Draft.TheInside.{Inside}

-- the number of men stored is at most the capacity
pub record IsTidy (a : Inside) : Type 0 where
  pub count : a.count ≤ MOST_READ
  pub full : length a.men ≡ MOST_READ
