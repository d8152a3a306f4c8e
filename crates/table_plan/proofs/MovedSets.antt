-- A moved set has the positions of the set, each moved as a whole.
use Rattle.std.proofs.Common.{◌≡◌, ◌≢◌, ◌↔◌, ℕ, suc, ◌+◌, ◌*◌, ◌-◌, ◌%◌, ◌<◌, ◌≤◌, ℤ, ◌+ℤ◌, Bool, true, false, List, [], ◌∷◌, length, map, Some, refl, sym, ap, ◌∙◌, subst, arith}
use Rattle.std.proofs.lemmas.Int.{ints}
use Rattle.std.proofs.lemmas.List.{length-map}
use Rattle.track_word.specs.Tracks.{Values, values_at}
use Rattle.game_rules.specs.Game.{Position, place_square, square_of}
use Rattle.game_rules.specs.declared.men.Man.{Man}
use Rattle.game_rules.specs.declared.men.Place.{Place}
use Rattle.game_rules.specs.declared.men.Place.TheVariants.{Gone, At}
use Rattle.game_rules.specs.declared.men.Ray.{Ray}
use Rattle.game_rules.specs.declared.men.Side.{Side}
use Rattle.game_rules.specs.declared.men.Square.{Square}
use Rattle.lin_formula.specs.SetOf.{Member, SetOf}
use Rattle.mask_sets.specs.Stock.{live_bit, mask_of, mask_of_men}
use Rattle.game_laws.specs.Stock.{HasStock}
use Rattle.mask_sets.specs.Tuple.{tuple_of}
use Rattle.rule_formula.specs.Mean.{mask_tracks}
use Rattle.rule_formula.specs.Placed.{is_live, men_from, place_at, placed}
use Rattle.rule_formula.specs.Seats.{squares}
use Rattle.rule_formula.specs.Trees.{tracks_of}
use Rattle.rule_formula.proofs.FitLemmas.{placed_unique, placed_values, tuple_placed, values_of}
use Rattle.rule_formula.proofs.LawTheorem.{squares_of}
use Rattle.rule_formula.proofs.RayLemmas.{square_at}
use Rattle.rule_formula.proofs.StockLemmas.{stock_placed}
use Rattle.rule_formula.proofs.SweptLemmas.{placed_same}
use Rattle.set_plan.proofs.Takings.{IsOver}
use Rattle.set_plan.specs.Program.{Entry, Takes}
use Rattle.set_plan.specs.Unite.{Made}
use Rattle.mate_plan.specs.PlanOf.{rules_of}
use Rattle.mate_plan.specs.declared.names.PartName.{PartName}
use Rattle.winning_sets.specs.Solve.{IsTupleOf}
use Rattle.table_plan.specs.Table.{moved_set, shift_of}
use Rattle.game_laws.specs.Symmetry.{mapped_man, mapped_place, shift}
use Rattle.game_laws.proofs.SymmetryLemmas.{man_from}
use Rattle.table_plan.specs.TableMeans.{IsInSet, MovedFrom, MovedIsMoved, moved_by}
use Rattle.table_plan.proofs.Shifts.{if_at, if_off, lowered, moved-values, values_agree}

abbrev pub further : ℤ → ℤ → Square → Square
further dx dy z = record { x = z.x +ℤ dx; y = z.y +ℤ dy }

moved_at : (dx dy : ℤ) (b : Bool) (z : Square) → mapped_place (shift dx dy) (place_at b z) ≡ place_at b (further dx dy z)
moved_at dx dy true z = refl
moved_at dx dy false z = refl

moved_men : (dx dy : ℤ) (k : ℕ) (stock : List Man) (live : ℕ → Bool) (f : ℕ → Square)
    → map (mapped_man (shift dx dy)) (men_from k stock live f) ≡ men_from k stock live (λ j. further dx dy (f j))
moved_men dx dy k [] live f = refl
moved_men dx dy k (m ∷ ms) live f =
    ap (λ (x : Place). record m { place = x } ∷ map (mapped_man (shift dx dy)) (men_from (suc k) ms live f)) (moved_at dx dy (live k) (f k))
    ∙ ap (λ (ns : List Man). record m { place = place_at (live k) (further dx dy (f k)) } ∷ ns) (moved_men dx dy (suc k) ms live f)

-- a placed position, moved
pub moved_placed : (dx dy : ℤ) (stock : List Man) (live : ℕ → Bool) (turn : Side) (f : ℕ → Square)
    → moved_by dx dy (placed stock live turn f) ≡ placed stock live turn (λ j. further dx dy (f j))
moved_placed dx dy stock live turn f = ap (λ (ms : List Man). record { men = ms; turn = turn }) (moved_men dx dy 1 stock live f)

place_bit : (dx dy : ℤ) (x : Place) → live_bit (place_square (mapped_place (shift dx dy) x)) ≡ live_bit (place_square x)
place_bit dx dy Gone = refl
place_bit dx dy (At x y) = refl

moved_bits : (dx dy : ℤ) (ms : List Man) → mask_of_men (map (mapped_man (shift dx dy)) ms) ≡ mask_of_men ms
moved_bits dx dy [] = refl
moved_bits dx dy (m ∷ ms) =
    ap (λ b. b + 2 * mask_of_men (map (mapped_man (shift dx dy)) ms)) (place_bit dx dy m.place) ∙ ap (λ n. live_bit (square_of m) + 2 * n) (moved_bits dx dy ms)

-- the same men are live
pub moved_mask : (dx dy : ℤ) (q : Position) → mask_of (moved_by dx dy q) ≡ mask_of q
moved_mask dx dy q = moved_bits dx dy q.men

pub moved_stock : (dx dy : ℤ) (stock : List Man) (q : Position) → HasStock stock q → HasStock stock (moved_by dx dy q)
moved_stock dx dy stock q has = record {
  count = length-map q.men (mapped_man (shift dx dy)) ∙ has.count;
  men = λ k m n is at.
      let (l, there, same) = man_from (shift dx dy) q k n at in
      let alike = has.men k m l is there in
      (sym (ap (λ (a : Man). a.side) same) ∙ alike.0, sym (ap (λ (a : Man). a.kind) same) ∙ alike.1);
}

-- values of the tuple of a position of the stock are those of its squares
stock_values : {stock : List Man} {q : Position} (v : Values) → HasStock stock q → values_at (tracks_of stock (is_live (mask_of q))) v ≡ tuple_of q
    → placed stock (is_live (mask_of q)) q.turn (squares v) ≡ q
stock_values {stock} {q} v has tuple =
    let live : ℕ → Bool = is_live (mask_of q) in
    let w : Values = values_of (squares_of q) in
    let q_is : placed stock live q.turn (squares w) ≡ q = placed_values stock live q.turn (squares_of q) ∙ stock_placed has in
    placed_unique stock live q.turn v w (tuple ∙ sym (ap tuple_of q_is) ∙ sym (tuple_placed stock live q.turn w)) ∙ q_is

-- there are such values
stock_tuple : {stock : List Man} {q : Position} → HasStock stock q → values_at (tracks_of stock (is_live (mask_of q))) (values_of (squares_of q)) ≡ tuple_of q
stock_tuple {stock} {q} has =
    let live : ℕ → Bool = is_live (mask_of q) in
    tuple_placed stock live q.turn (values_of (squares_of q)) ∙ ap tuple_of (placed_values stock live q.turn (squares_of q) ∙ stock_placed has)

abbrev pub raised : Ray → Values → Values
raised r v y = v y +ℤ shift_of r (record { 0 = y })

raised_square : (r : Ray) (v : Values) (k : ℕ) → 0 < k → squares (raised r v) k ≡ further r.dx r.dy (squares v k)
raised_square r v k low =
    let even : (2 * k - 2) % 2 ≡ 0 = omega (arith, low) in
    let odd : (2 * k - 1) % 2 ≢ 0 = λ e. omega (arith, low, e) in
    square_at (squares (raised r v) k) (further r.dx r.dy (squares v k))
    (ap (λ d. v (2 * k - 2) +ℤ d) (if_at ((2 * k - 2) % 2) 0 r.dx r.dy even))
    (ap (λ d. v (2 * k - 1) +ℤ d) (if_off ((2 * k - 1) % 2) 0 r.dx r.dy odd))

-- the values of a position that is moved
raised_tuple : {stock : List Man} {q : Position} (r : Ray) (v : Values) → HasStock stock q → values_at (tracks_of stock (is_live (mask_of q))) v ≡ tuple_of q
    → values_at (tracks_of stock (is_live (mask_of q))) (raised r v) ≡ tuple_of (moved_by r.dx r.dy q)
raised_tuple {stock} {q} r v has tuple =
    let live : ℕ → Bool = is_live (mask_of q) in
    let at : placed stock live q.turn (squares v) ≡ q = stock_values v has tuple in
    let there : placed stock live q.turn (squares (raised r v)) ≡ moved_by r.dx r.dy q =
    placed_same stock live q.turn (squares (raised r v)) (λ j. further r.dx r.dy (squares v j)) (λ k low high on. raised_square r v k low)
    ∙ (sym (moved_placed r.dx r.dy stock live q.turn (squares v)) ∙ ap (moved_by r.dx r.dy) at) in
    tuple_placed stock live q.turn (raised r v) ∙ ap tuple_of there

-- the set of any positions of the stock, moved
pub moved-set : (p : Position) (Set : Position → Type 0) (r : Ray) (ply mask at : ℕ) (s : SetOf) (made : Made) (entries : List (Entry PartName)) → length p.men ≤ 8
    → ((q : Position) → Set q → HasStock p.men q) → ((tuple : List ℤ) → Member s tuple ↔ IsTupleOf Set mask tuple)
    → Takes (moved_set (rules_of p) ply mask r at s) entries (Some made) → (tuple : List ℤ) → Member made.0 tuple ↔ IsTupleOf (MovedFrom Set r) mask tuple
moved-set p Set r ply mask at s made entries few has whole takes tuple =
    let tracks = mask_tracks p mask in
    let tracked = λ (q : Position) (m : mask_of q ≡ mask). ap (λ n. tracks_of p.men (is_live n)) m in
    let over : IsOver tracks s = λ u h.
    let k = (whole u).0 h in
    (values_of (squares_of k.position), ap (λ vars. values_at vars (values_of (squares_of k.position))) (sym (tracked k.position k.mask_is)) ∙ stock_tuple (has k.position k.is_in) ∙ k.tuple_is) in
    let less = moved-values p few ply mask r at s made entries over takes in (
      λ h.
          let (v, is) = less.over tuple h in
          let k = (whole (values_at tracks (lowered p few ply mask r v))).0 ((less.same v).0 (subst (Member made.0) (sym is) h)) in
          let q : Position = k.position in
          let w : Values = lowered p few ply mask r v in
          let here : values_at (tracks_of p.men (is_live (mask_of q))) w ≡ tuple_of q = ap (λ vars. values_at vars w) (tracked q k.mask_is) ∙ sym k.tuple_is in
          let there = raised_tuple r w (has q k.is_in) here in
          let again : values_at tracks (raised r w) ≡ values_at tracks v = values_agree tracks (raised r w) v (λ z i. omega (arith, ints)) in
          record {
            position = moved_by r.dx r.dy q;
            is_in = record { from = q; is_in = k.is_in; is = refl };
            mask_is = moved_mask r.dx r.dy q ∙ k.mask_is;
            tuple_is = sym there ∙ ap (λ vars. values_at vars (raised r w)) (tracked q k.mask_is) ∙ again ∙ is;
          },
      λ h.
          let q : Position = h.is_in.from in
          let v : Values = values_of (squares_of q) in
          let is : h.position ≡ moved_by r.dx r.dy q = h.is_in.is in
          let mask_is : mask_of q ≡ mask = sym (moved_mask r.dx r.dy q) ∙ ap mask_of (sym is) ∙ h.mask_is in
          let here = stock_tuple (has q h.is_in.is_in) in
          let there = raised_tuple r v (has q h.is_in.is_in) here in
          let tuple_is : values_at tracks (raised r v) ≡ tuple = ap (λ vars. values_at vars (raised r v)) (sym (tracked q mask_is)) ∙ there ∙ ap tuple_of (sym is) ∙ h.tuple_is in
          let w : Values = lowered p few ply mask r (raised r v) in
          let again : values_at tracks w ≡ values_at tracks v = values_agree tracks w v (λ z i. omega (arith, ints)) in
          let first : values_at tracks v ≡ tuple_of q = ap (λ vars. values_at vars v) (sym (tracked q mask_is)) ∙ here in
          let member : Member s (values_at tracks w) = (whole (values_at tracks w)).1 (record { position = q; is_in = h.is_in.is_in; mask_is = mask_is; tuple_is = sym first ∙ sym again }) in
          subst (Member made.0) tuple_is ((less.same (raised r v)).1 member),
    )

pub moved_means : MovedIsMoved
moved_means = λ p r ply mask at s made entries few inside takes.
    let In_set : Position → Type 0 = IsInSet p mask s in
    let At : List ℤ → Type 0 = λ u. Member s u in
    moved-set p In_set r ply mask at s made entries few (λ q h. h.stock) (λ u. (inside u, λ h. subst At h.tuple_is h.is_in.member)) takes
