-- Nodes that are read one after another.
use Rattle.std.proofs.Common.{◌≡◌, ℕ, suc, ◌-◌, ◌+◌, ◌≤◌, ◌<◌, Bool, true, false, List, [], ◌∷◌, ◌++◌, ◌&&◌, length, nat_lt, get_or, slice_get, Some, Result, Ok, refl, sym, ap, subst, ◌∙◌, arith, inl, inr}
use Rattle.std.proofs.lemmas.Bool.{lt-ltb, le-ltb}
use Rattle.std.proofs.lemmas.Option.{get_or_from_slice_get, slice_get_within, slice_get-get_or}
use Rattle.letter_diagram.specs.declared.diagrams.Shape.TheVariants.{Leaf}
use Rattle.letter_diagram.specs.Diagram.{top_track, track_of}
use Rattle.auto_nodes.specs.declared.table.RowNode.{RowNode}
use Rattle.auto_nodes.specs.Nodes.{named, test_of, IsRowNode, AreRowNodes}
use Rattle.auto_nodes.proofs.Named.{named-state, named-node, length-named, Grows-named, get-cases}
use Rattle.strategy_file.specs.declared.refusal.FileError.{FileError}
use Rattle.std.specs.Int.{w8}
use Rattle.std.specs.List.{zip}
use Rattle.std.specs.Prelude.{◌==◌}
use Rattle.strategy_file.specs.declared.refusal.ByteWhy.TheVariants as why
use Rattle.strategy_file.specs.Layout.{Refusal, Give, bind, one, between}
use Rattle.strategy_file.specs.Reading.{Left, taken, Fails}
use Rattle.strategy_file.specs.SharedTables.{CanBePart, node_layout, nodes_layout, reference_layout, shared_state_layout}
use Rattle.strategy_file.proofs.Takings.{then_ok, then_fails, first_fails, fails_as}

state-top : (states : ℕ) (nodes : List RowNode) (part : ℕ) → part < states → top_track (named states nodes) part ≡ 20
unfolding top_track
state-top states nodes part h = ap track_of (get_or_from_slice_get (named states nodes) part (Leaf part) (Leaf 0) (named-state states nodes part h))

node-top : (states : ℕ) (nodes : List RowNode) (i : ℕ) (node : RowNode) → slice_get nodes i ≡ Some node → top_track (named states nodes) (states + i) ≡ node.track
unfolding top_track
node-top states nodes i node h = ap track_of (get_or_from_slice_get (named states nodes) (states + i) (test_of node) (Leaf 0) (named-node states nodes i node h))

both : (a b : Bool) → a ≡ true → b ≡ true → true ≡ (a && b)
both a b p q = λ i. sym p i && sym q i

pub part_state : (states : ℕ) (nodes : List RowNode) (track part : ℕ) → part < states → track < 20 → true ≡ CanBePart states nodes track part
part_state states nodes track part h low =
    let t = state-top states nodes part h in
    both _ _ (lt-ltb part (states + length nodes) (omega (arith, h))) (lt-ltb track (top_track (named states nodes) part) (omega (arith, low, t)))

pub part_node : (states : ℕ) (nodes : List RowNode) (track part : ℕ) (d : RowNode) → states ≤ part → part - states < length nodes
    → nat_lt track (get_or nodes (part - states) d).track ≡ CanBePart states nodes track part
part_node states nodes track part d past within =
    let e : states + (part - states) ≡ part = omega (arith, past) in
    let t = sym (ap (λ p. top_track (named states nodes) p) e) ∙ node-top states nodes (part - states) (get_or nodes (part - states) d) (slice_get-get_or nodes (part - states) d within) in
    (λ i. sym (lt-ltb part (states + length nodes) (omega (arith, within, e))) i && nat_lt track (sym t i))

pub part_none : (states : ℕ) (nodes : List RowNode) (track part : ℕ) → states ≤ part → length nodes ≤ part - states → false ≡ CanBePart states nodes track part
part_none states nodes track part past none = λ i. sym (le-ltb part (states + length nodes) (omega (arith, past, none))) i && nat_lt track (top_track (named states nodes) part)

-- a node after others
pub AreRowNodes-push : (tracks states : ℕ) (nodes : List RowNode) (node : RowNode) → AreRowNodes tracks states nodes → IsRowNode (named states nodes) tracks (states + length nodes) node
    → AreRowNodes tracks states (nodes ++ node ∷ [])
AreRowNodes-push tracks states nodes node are is = λ i other at. elim (get-cases nodes (node ∷ []) (length nodes) i other refl at) [
  | inl w ↦ later i other (length nodes) (let b = w.0 in omega (arith, b)) (are i other w.1)
  | inr w ↦ last i other w.0 w.1 w.2
]
  where
    later : (i : ℕ) (other : RowNode) (bound : ℕ) → i ≤ length nodes → IsRowNode (named states nodes) tracks (states + i) other
        → IsRowNode (named states (nodes ++ node ∷ [])) tracks (states + i) other
    later i other bound h r =
        let grows = Grows-named states nodes (node ∷ []) in
        let size = length-named states nodes in
        let lb = r.low_before in
        let hb = r.high_before in
        let la = r.low_above in
        let ha = r.high_above in
        let lt = grows.top other.low (omega (arith, lb, h, size)) in
        let ht = grows.top other.high (omega (arith, hb, h, size)) in
        record { track = r.track; low_before = lb; high_before = hb; low_above = omega (arith, la, lt); high_above = omega (arith, ha, ht) }

    last : (i : ℕ) (other : RowNode) (j : ℕ) → i ≡ length nodes + j → slice_get (node ∷ []) j ≡ Some other → IsRowNode (named states (nodes ++ node ∷ [])) tracks (states + i) other
    last i other j e h =
        let within = slice_get_within (node ∷ []) j other h in
        let z : j ≡ 0 = omega (arith, within) in
        let k : i ≡ length nodes = omega (arith, z, e) in
        let same : node ≡ other = sym (get_or_from_slice_get (node ∷ []) 0 node node refl) ∙ get_or_from_slice_get (node ∷ []) 0 other node (subst (λ n. slice_get (node ∷ []) n ≡ Some other) z h) in
        let here = later (length nodes) node 0 (omega arith) is in
        let P : ℕ → RowNode → Type 0 = λ n x. IsRowNode (named states (nodes ++ node ∷ [])) tracks (states + n) x in
        subst (λ x. P i x) same (subst (λ n. P n node) (sym k) here)

module _ (tracks states count i at : ℕ) (bytes : List ℕ) (before : List RowNode) (total : Result (List RowNode × Left) Refusal)
    (so_far : taken (nodes_layout tracks states (count - i) before) at bytes ≡ total) where
  pub nodes_go_on : (node : RowNode) (left : Left) → i < count → taken (node_layout tracks states before) at bytes ≡ Ok (node, left)
      → taken (nodes_layout tracks states (count - (i + 1)) (before ++ node ∷ [])) left.at left.bytes ≡ total
  nodes_go_on node left h read =
      let k : count - i ≡ suc (count - (i + 1)) = omega (arith, h) in
      sym (ap (λ n. taken (nodes_layout tracks states n before) at bytes) k
      ∙ then_ok (node_layout tracks states before) (λ x. nodes_layout tracks states (count - (i + 1)) (before ++ x ∷ [])) at bytes node left
      (taken (nodes_layout tracks states (count - (i + 1)) (before ++ node ∷ [])) left.at left.bytes) read refl)
      ∙ so_far

  pub nodes_fail : (e : FileError) → i < count → Fails e (taken (node_layout tracks states before) at bytes) → Fails e total
  nodes_fail e h fails =
      let k : count - i ≡ suc (count - (i + 1)) = omega (arith, h) in
      fails_as e (taken (nodes_layout tracks states (suc (count - (i + 1))) before) at bytes) total
      (ap (λ n. taken (nodes_layout tracks states n before) at bytes) (sym k) ∙ so_far)
      (first_fails e (node_layout tracks states before) (λ x. nodes_layout tracks states (count - (i + 1)) (before ++ x ∷ [])) at bytes fails)

pub zip-push : (flags : List Bool) (rows : List ℕ) (flag : Bool) (row : ℕ) → length flags ≡ length rows → zip (flags ++ flag ∷ []) (rows ++ row ∷ []) ≡ zip flags rows ++ (flag, row) ∷ []
zip-push [] [] flag row size = refl
zip-push [] (r ∷ rows) flag row size = absurd (omega (arith, size))
zip-push (f ∷ flags) [] flag row size = absurd (omega (arith, size))
zip-push (f ∷ flags) (r ∷ rows) flag row size = ap (λ l. (f, r) ∷ l) (zip-push flags rows flag row (omega (arith, size)))

pub shared_flag_fails : (references at : ℕ) (bytes : List ℕ) (e : FileError) → Fails e (taken (one (between w8 0 1 why.Flag)) at bytes) → Fails e (taken (shared_state_layout references) at bytes)
unfolding shared_state_layout
shared_flag_fails references at bytes e h = first_fails e (one (between w8 0 1 why.Flag)) (λ flag. bind (reference_layout references) (λ row. Give (flag == 1, row))) at bytes h

pub shared_row_fails : (references at : ℕ) (bytes : List ℕ) (flag : ℕ) (left : Left) → taken (one (between w8 0 1 why.Flag)) at bytes ≡ Ok (flag, left) → (e : FileError)
    → Fails e (taken (reference_layout references) left.at left.bytes) → Fails e (taken (shared_state_layout references) at bytes)
unfolding shared_state_layout
shared_row_fails references at bytes flag left h e fails =
    then_fails e (one (between w8 0 1 why.Flag)) (λ flag. bind (reference_layout references) (λ row. Give (flag == 1, row))) at bytes flag left h
    (first_fails e (reference_layout references) (λ row. Give (flag == 1, row)) left.at left.bytes fails)

pub shared_state_read : (references at : ℕ) (bytes : List ℕ) (flag : ℕ) (left : Left) (row : ℕ) (after : Left) → taken (one (between w8 0 1 why.Flag)) at bytes ≡ Ok (flag, left)
    → taken (reference_layout references) left.at left.bytes ≡ Ok (row, after) → taken (shared_state_layout references) at bytes ≡ Ok ((flag == 1, row), after)
unfolding shared_state_layout
shared_state_read references at bytes flag left row after h rest =
    then_ok (one (between w8 0 1 why.Flag)) (λ flag. bind (reference_layout references) (λ row. Give (flag == 1, row))) at bytes flag left (Ok ((flag == 1, row), after)) h
    (then_ok (reference_layout references) (λ row. Give (flag == 1, row)) left.at left.bytes row after (Ok ((flag == 1, row), after)) rest refl)
