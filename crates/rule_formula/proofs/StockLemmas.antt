-- A position is told by its stock, the side to move, its mask and its coordinates. Other crates cite stock_placed and stock_unique.
use Rattle.std.proofs.Common.{◌≡◌, ℕ, Bool, List, sym, ap, ◌∙◌}
use Rattle.track_word.specs.Tracks.{Values, values_at}
use Rattle.game_rules.specs.Game.{Position}
use Rattle.game_rules.specs.declared.men.Man.{Man}
use Rattle.game_rules.specs.declared.men.Side.{Side}
use Rattle.rule_formula.specs.Fits.{Fits}
use Rattle.mask_sets.specs.Stock.{mask_of}
use Rattle.game_laws.specs.Stock.{HasStock}
use Rattle.rule_formula.specs.Placed.{is_live, placed}
use Rattle.mask_sets.specs.Tuple.{tuple_of}
use Rattle.rule_formula.specs.Seats.{squares}
use Rattle.rule_formula.specs.Trees.{tracks_of}
use Rattle.rule_formula.proofs.FitLemmas.{alike_of, men_alike, placed_unique, placed_values, tuple_placed, values_of}
use Rattle.mask_sets.proofs.Masks.{mask_tells}
use Rattle.rule_formula.proofs.LawTheorem.{self_placed, squares_of}

-- a position of the stock is made of the stock, with its men on their squares
pub stock_placed : {stock : List Man} {q : Position} → HasStock stock q → placed stock (is_live (mask_of q)) q.turn (squares_of q) ≡ q
stock_placed {q} h =
    ap (λ xs. record { men = xs; turn = q.turn }) (men_alike 1 (is_live (mask_of q)) (squares_of q) (alike_of h))
    ∙ self_placed (mask_tells q)

-- positions of one stock with one side to move, one mask and one tuple are one
pub stock_unique : {stock : List Man} {q r : Position} → HasStock stock q → HasStock stock r → q.turn ≡ r.turn → mask_of q ≡ mask_of r → tuple_of q ≡ tuple_of r → q ≡ r
stock_unique {stock} {q} {r} stock_q stock_r turn mask tuple =
    let live : ℕ → Bool = is_live (mask_of r) in
    let v : Values = values_of (squares_of q) in
    let w : Values = values_of (squares_of r) in
    let At : ℕ → Side → Position = λ m s. placed stock (is_live m) s (squares_of q) in
    let q_is : placed stock live r.turn (squares v) ≡ q =
    placed_values stock live r.turn (squares_of q) ∙ (ap (λ m. At m r.turn) (sym mask) ∙ (ap (λ s. At (mask_of q) s) (sym turn) ∙ stock_placed stock_q)) in
    let r_is : placed stock live r.turn (squares w) ≡ r = placed_values stock live r.turn (squares_of r) ∙ stock_placed stock_r in
    let same : values_at (tracks_of stock live) v ≡ values_at (tracks_of stock live) w =
    tuple_placed stock live r.turn v ∙ (ap tuple_of q_is ∙ (tuple ∙ (sym (ap tuple_of r_is) ∙ sym (tuple_placed stock live r.turn w)))) in
    sym q_is ∙ (placed_unique stock live r.turn v w same ∙ r_is)

-- and of the game: a position is that of the stock, with its men on their squares
pub fits_placed : {p : Position} {side : Side} {q : Position} → Fits p side q → placed p.men (is_live (mask_of q)) side (squares_of q) ≡ q
fits_placed {p} {q} fits =
    ap (λ s. placed p.men (is_live (mask_of q)) s (squares_of q)) (sym fits.turn) ∙ stock_placed fits.stock

-- positions of the game with one mask and one tuple are one
pub fits_unique : (p : Position) (side : Side) (q r : Position) → Fits p side q → Fits p side r → mask_of q ≡ mask_of r → tuple_of q ≡ tuple_of r → q ≡ r
fits_unique p side q r fits_q fits_r mask tuple =
    stock_unique fits_q.stock fits_r.stock (fits_q.turn ∙ sym fits_r.turn) mask tuple

-- values of the tuple of a position of the game are those of its squares
pub fits_values : {p : Position} {side : Side} {q : Position} (v : Values) → Fits p side q
    → values_at (tracks_of p.men (is_live (mask_of q))) v ≡ tuple_of q → placed p.men (is_live (mask_of q)) side (squares v) ≡ q
fits_values {p} {side} {q} v fits tuple =
    let live : ℕ → Bool = is_live (mask_of q) in
    let w : Values = values_of (squares_of q) in
    let q_is : placed p.men live side (squares w) ≡ q = placed_values p.men live side (squares_of q) ∙ fits_placed fits in
    placed_unique p.men live side v w (tuple ∙ sym (ap tuple_of q_is) ∙ sym (tuple_placed p.men live side w)) ∙ q_is
