-- What a call of the walk lists.
use Rattle.std.proofs.Common.{◌≡◌, ◌<◌, ◌+◌, ℕ, true, false, List, [], ◌∷◌, ◌++◌, length, get_or, slice_get, Option, None, Some, IfSome, IfNone, Contains, take, arith, refl, sym, ap, ◌∙◌, subst, inl, inr}
use Rattle.std.specs.Option.{is_some}
use Rattle.std.proofs.lemmas.Bool.{cases_lt}
use Rattle.std.proofs.lemmas.List.{append-nil, append_assoc, length_push, get_or_append_left, take_more}
use Rattle.std.proofs.lemmas.Option.{slice_get-get_or, slice_get_within, get_or_from_slice_get}
use Rattle.letter_diagram.specs.declared.diagrams.Shape.{Shape}
use Rattle.letter_diagram.specs.declared.diagrams.Shape.TheVariants.{Leaf, Test}
use Rattle.letter_diagram.specs.Diagram.{IsDiagram, IsAt}
use Rattle.auto_nodes.specs.Walks.{Walks, Constant, Before, After, WalksAll, Done, Next, Walked, IsListed, AreListedTests}
use Rattle.auto_nodes.proofs.Listings.{Walks-append, WalksAll-append, WalksAll-push, listed-within}

pub walked-leaf : (shapes : List Shape) (listed : List ℕ) (node value : ℕ) → IsAt shapes node (Leaf value) → Walked shapes listed listed node
walked-leaf shapes listed node value at = record { more = []; is = sym (append-nil listed); walks = Constant value at }

pub walked-known : (shapes : List Shape) (listed : List ℕ) (node : ℕ) (found : Option ℕ) → is_some found ≡ true → IfSome found (λ place. slice_get listed place ≡ Some node)
    → Walked shapes listed listed node
walked-known shapes listed node None some at = cc
walked-known shapes listed node (Some place) some at =
    record { more = []; is = sym (append-nil listed); walks = Before place (slice_get_within listed place node at) at }

pub walked-test : {shapes : List Shape} (old mid last : List ℕ) (node track low high : ℕ) → IsAt shapes node (Test track low high) → Walked shapes old mid low → Walked shapes mid last high
    → Walked shapes old (last ++ node ∷ []) node
walked-test {shapes} old mid last node track low high at l h =
    let l_is = l.is in
    let h_is = h.is in
    let whole : last ++ node ∷ [] ≡ mid ++ (h.more ++ node ∷ []) = ap (λ x. x ++ node ∷ []) h_is ∙ append_assoc mid h.more (node ∷ []) in
    let size = length_push last node in
    let here : slice_get (last ++ node ∷ []) (length last) ≡ Some node =
    slice_get-get_or (last ++ node ∷ []) (length last) node (omega (arith, size)) ∙ ap Some (get_or_append-seam last node) in
    record {
      more = l.more ++ (h.more ++ node ∷ []);
      is = whole ∙ ap (λ x. x ++ (h.more ++ node ∷ [])) l_is ∙ append_assoc old l.more (h.more ++ node ∷ []);
      walks =
          subst (Walks shapes (last ++ node ∷ []) node (length old)) (sym (size ∙ omega arith))
          (After track low high at
          (subst (λ x. Walks shapes x low (length old) (length mid)) (sym whole) (Walks-append (h.more ++ node ∷ []) l.walks))
          (Walks-append (node ∷ []) h.walks) here);
    }
  where
    get_or_append-seam : (xs : List ℕ) (x : ℕ) → get_or (xs ++ x ∷ []) (length xs) x ≡ x
    get_or_append-seam [] x = refl
    get_or_append-seam (y ∷ xs) x = get_or_append-seam xs x

-- a node that is made later than all that was listed meanwhile is still not listed
pub absent-after : {shapes : List Shape} (old new : List ℕ) (from node : ℕ) → IsDiagram shapes → Walked shapes old new from → from < node → (Contains old node → ⊥) → Contains new node → ⊥
absent-after old new from node is w less absent there =
    let place = there.0 in
    let below = there.1 in
    let at = there.2 in
    let e = w.is in
    elim (cases_lt place (length old)) [
      | inl early ↦ absent (place, early, sym (get_or_append_left old w.more node place early) ∙ ap (λ x. get_or x place node) (sym e) ∙ at)
      | inr late ↦ let a = listed-within is w.walks place node late below in omega (arith, a, at, less)
    ]

-- the first walk, and each further one
pub walked-first : {shapes : List Shape} {node : ℕ} (listed : List ℕ) → Walked shapes [] listed node → WalksAll shapes listed (node ∷ []) 0 (length listed)
walked-first listed w = Next w.walks Done

pub walked-next : {shapes : List Shape} {nodes : List ℕ} {node : ℕ} (old new : List ℕ) → WalksAll shapes old nodes 0 (length old) → Walked shapes old new node
    → WalksAll shapes new (nodes ++ node ∷ []) 0 (length new)
walked-next {shapes} {nodes} old new ws w = WalksAll-push (subst (λ x. WalksAll shapes x nodes 0 (length old)) (sym w.is) (WalksAll-append w.more ws)) w.walks

pub absent-where_none : (found : Option ℕ) (P : Type 0) → is_some found ≡ false → IfNone found P → P
absent-where_none None P none p = p
absent-where_none (Some place) P none p = cc

pub walked-more : (shapes : List Shape) (nodes old new : List ℕ) (i first node : ℕ) → i < length nodes → node ≡ get_or nodes i node → WalksAll shapes old (first ∷ take i nodes) 0 (length old)
    → Walked shapes old new node → WalksAll shapes new (first ∷ take (i + 1) nodes) 0 (length new)
walked-more shapes nodes old new i first node below is ws w =
    let e : take (i + 1) nodes ≡ take i nodes ++ node ∷ [] = take_more nodes i node below ∙ ap (λ n. take i nodes ++ n ∷ []) (sym is) in
    subst (λ x. WalksAll shapes new (first ∷ x) 0 (length new)) (sym e) (walked-next old new ws w)

pub listed-item : (shapes : List Shape) (listed : List ℕ) (i node : ℕ) → AreListedTests shapes listed → (nodes : List ℕ) → nodes ≡ listed → i < length nodes
    → node ≡ get_or nodes i node → IsListed shapes listed node
listed-item shapes listed i node are nodes same below is =
    let within : i < length listed = subst (λ ns. i < length ns) same below in
    let here : node ≡ get_or listed i node = is ∙ ap (λ ns. get_or ns i node) same in
    record { place = i; here = slice_get-get_or listed i node within ∙ ap Some (sym here); below = within; test = are i within }

pub listed-known : {shapes : List Shape} {listed : List ℕ} {node : ℕ} → IsListed shapes listed node → node < length shapes
listed-known {shapes} {listed} {node} is =
    let t = is.test in
    let at = t.at in
    let e : node ≡ t.node = sym (get_or_from_slice_get listed is.place node 0 is.here) ∙ get_or_from_slice_get listed is.place t.node 0 t.here in
    let within = at.within in
    omega (arith, e, within)
