-- How a board stores its men.
use Rattle.std.specs.Prelude.{◌≡◌, ◌≤◌, ◌-◌, ◌++◌, List, drop, length, replicate, take}
use Rattle.std.proofs.Common.{arith, ap, sym, ◌∙◌, length-take, length-append, length-drop}
use Rattle.std.proofs.Math.Seq.{drop-append_seam}
use Rattle.std.proofs.lemmas.List.{take-append-drop, drop-replicate, length-replicate}
use Rattle.game_rules.specs.Game.{Position}
use Rattle.game_rules.specs.declared.men.Man.{Man}
use Rattle.game_rules.specs.declared.men.Side.{Side}
use Rattle.game_rules.specs.declared.men.Side.TheVariants.{White}
use Rattle.game_rules.specs.declared.men.Kind.TheVariants.{King}
use Rattle.game_rules.specs.declared.men.Place.TheVariants.{Gone}
use Rattle.chess_game.specs.declared.board.Board.TheInside.{Inside}

-- the captured man that fills the places after the last man
abbrev pub nobody : Man
nobody = record { side = White; kind = King; place = Gone }

abbrev pub position_of : Inside → Position
position_of a = record { men = take a.count a.men; turn = a.turn }

-- two to eight men, and `nobody` in the places after them
pub record IsTidy (a : Inside) : Type 0 where
  pub low : 2 ≤ a.count
  pub high : a.count ≤ 8
  pub full : length a.men ≡ 8
  pub rest : drop a.count a.men ≡ replicate (8 - a.count) nobody

abbrev pub board_of : Position → Inside
board_of p = record { men = p.men ++ replicate (8 - length p.men) nobody; count = length p.men; turn = p.turn }

pub board_again : (a : Inside) → IsTidy a → board_of (position_of a) ≡ a
board_again a h =
    let counted : length (take a.count a.men) ≡ a.count = simp length-take (omega arith) in
    let whole : take a.count a.men ++ replicate (8 - a.count) nobody ≡ a.men =
    ap (λ rest. take a.count a.men ++ rest) (sym h.rest) ∙ take-append-drop a.count a.men in
    ap (λ n. record { men = take a.count a.men ++ replicate (8 - n) nobody; count = n; turn = a.turn }) counted
    ∙ ap (λ men. record { men = men; count = a.count; turn = a.turn }) whole

-- a board of eight `nobody`s whose front is overwritten by the men is tidy
pub IsTidy-written : (men : List Man) (turn : Side) → 2 ≤ length men → length men ≤ 8
    → IsTidy (record { men = men ++ drop (length men) (replicate 8 nobody); count = length men; turn = turn })
IsTidy-written men turn low high =
    record {
      low = low;
      high = high;
      full = simp (length-append, length-drop, length-replicate) (omega arith);
      rest = drop-append_seam men (drop (length men) (replicate 8 nobody)) ∙ drop-replicate (length men) 8 nobody;
    }
