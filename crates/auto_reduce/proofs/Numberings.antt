-- Orders in which states are met row by row, and the numbering that they give.
use Rattle.std.proofs.Common.{◌≡◌, ◌≢◌, ℕ, zero, suc, ◌<◌, ◌≤◌, ◌+◌, ◌-◌, ◌*◌, ◌/◌, ◌%◌, ◌^◌, List, [], length, get_or, Contains, AllPairs, arith, refl, sym, ap, ◌∙◌, subst, inl, inr, ◌⊎◌}
use Rattle.std.proofs.lemmas.Bool.{cases_lt}
use Rattle.std.proofs.lemmas.Nat.{mod_below, pow_pos}
use Rattle.std.proofs.lemmas.List.{get_or_append_left, get_or-append_right, length-append}
use Rattle.std.proofs.lemmas.Grind.{common_steps}
use Rattle.auto_core.specs.Automaton.{Automaton, width, first_state, next_state}
use Rattle.auto_reduce.specs.Quotient.{IsOrderTo, IsQuotientBy}
use Rattle.auto_reduce.specs.Unmet.{AddsRow}
use Rattle.auto_reduce.specs.Numbering.{mentions, IsNumberedBreadthFirst, led_in, IsMentioned, IsMentionedBefore, IsNumberedTo, IsQuotient}
use Rattle.auto_refine.proofs.States.{first_within, next_within}
use Rattle.auto_reduce.proofs.Orders.{place_in}
use Rattle.auto_reduce.proofs.Leads.{LeadsTo, leads_low}
use Rattle.auto_reduce.proofs.Quotients.{different_places}

module _ (a : Automaton) (canon : List ℕ) where
  -- rows of kept places lead where they did
  led-kept : (old new : List ℕ) → ((place : ℕ) → place < length old → get_or new place 0 ≡ get_or old place 0) → (row letter : ℕ) → row ≤ length old
      → led_in a canon new row letter ≡ led_in a canon old row letter
  led-kept old new kept zero letter within = refl
  led-kept old new kept (suc place) letter within = ap (λ s. get_or canon (next_state a s letter) 0) (kept place (omega (arith, within)))

  -- one row more
  module _ (values : ℕ → ℕ) (rows : ℕ) (state : ℕ → ℕ) (old new : List ℕ) (l : LeadsTo a canon values state) (adds : AddsRow values old new)
      (apart : AllPairs (λ j k. j ≢ k) new) (n : IsNumberedTo a canon old rows) (within : rows ≤ length old)
      (is_row : (letter : ℕ) → get_or canon (state letter) 0 ≡ led_in a canon old rows letter)
      (closed : (row letter : ℕ) → row < rows → letter < width a → Contains old (led_in a canon old row letter)) where
    row-new : (letter : ℕ) → letter < width a → led_in a canon new rows letter ≡ values letter
    row-new letter below = led-kept old new adds.kept rows letter within ∙ sym (is_row letter) ∙ sym (l.leads letter below)

    mention-kept : {state : ℕ} → IsMentioned a canon old rows state → IsMentioned a canon new (rows + 1) state
    mention-kept m = record {
      row = m.row;
      letter = m.letter;
      within = let w = m.within in omega (arith, w);
      below = m.below;
      leads = led-kept old new adds.kept m.row m.letter (let w = m.within in omega (arith, w, within)) ∙ m.leads;
    }

    new_mentioned : (number : ℕ) → number < length new → IsMentioned a canon new (rows + 1) (get_or new number 0)
    new_mentioned number h = elim (cases_lt number (length old)) [
      | inl before ↦ subst (IsMentioned a canon new (rows + 1)) (sym (adds.kept number before)) (mention-kept (n.mentioned number before))
      | inr past ↦
          let g = adds.added number past h in
          let low = g.0 % width a in
          let below = mod_below g.0 (width a) (pow_pos (length a.tracks)) in
          record {
            row = rows;
            letter = g.0 % width a;
            within = omega arith;
            below = below;
            leads = row-new (g.0 % width a) below ∙ l.leads (g.0 % width a) below ∙ sym (leads_low a canon values state l g.0) ∙ g.1;
          }
    ]

    before_old : (row letter number : ℕ) → row < rows → letter < width a → number + 1 < length new
        → led_in a canon new row letter ≡ get_or new (number + 1) 0 → IsMentionedBefore a canon new row letter (get_or new number 0)
    before_old row letter number less below h e =
        let kept = led-kept old new adds.kept row letter (omega (arith, less, within)) in
        let p = place_in old _ (closed row letter less below) in
        let p_in = p.1 in
        let longer = adds.longer in
        let same = different_places new apart p.0 (number + 1) (omega (arith, p_in, longer)) h (adds.kept p.0 p.1 ∙ p.2 ∙ sym kept ∙ e) in
        let inside : number + 1 < length old = omega (arith, same, p_in) in
        let m = n.before row letter number less below inside (sym kept ∙ e ∙ adds.kept (number + 1) inside) in
        record {
          earlier_row = m.earlier_row;
          earlier = m.earlier;
          below = m.below;
          before = m.before;
          leads = led-kept old new adds.kept m.earlier_row m.earlier (earlier_in m.before) ∙ m.leads ∙ sym (adds.kept number (omega (arith, inside)));
        }
      where
        earlier_in : {r e l : ℕ} → (r < row) ⊎ ((r ≡ row) × (e < l)) → r ≤ length old
        earlier_in (inl b) = omega (arith, b, less, within)
        earlier_in (inr b) = let q = b.0 in omega (arith, q, less, within)

    before_new : (letter number : ℕ) → letter < width a → number + 1 < length new → led_in a canon new rows letter ≡ get_or new (number + 1) 0
        → IsMentionedBefore a canon new rows letter (get_or new number 0)
    before_new letter number below h e = elim (cases_lt number (length old)) [
      | inl before ↦
          let m = n.mentioned number before in
          let w = m.within in
          record {
            earlier_row = m.row;
            earlier = m.letter;
            below = m.below;
            before = inl w;
            leads = led-kept old new adds.kept m.row m.letter (omega (arith, w, within)) ∙ m.leads ∙ sym (adds.kept number before);
          }
      | inr past ↦
          let o = adds.in_order number (number + 1) past (omega arith) h in
          let less = o.2 letter (sym (row-new letter below) ∙ e) in
          let low : o.0 < width a = omega (arith, less, below) in
          record {
            earlier_row = rows;
            earlier = o.0;
            below = low;
            before = inr (refl, less);
            leads = row-new o.0 low ∙ o.1;
          }
    ]

    pub IsNumberedTo-row : IsNumberedTo a canon new (rows + 1)
    IsNumberedTo-row = record {
      mentioned = new_mentioned;
      before = λ row letter number less below h e. elim (cases_lt row rows) [
        | inl old_row ↦ before_old row letter number old_row below h e
        | inr last ↦
            let same : rows ≡ row = omega (arith, less, last) in
            subst (λ r. IsMentionedBefore a canon new r letter (get_or new number 0)) same
            (before_new letter number below h (ap (λ r. led_in a canon new r letter) same ∙ e))
      ];
    }

  pub IsNumberedTo-none : IsNumberedTo a canon [] 0
  IsNumberedTo-none = record { mentioned = λ number h. absurd (omega (arith, h)); before = λ row letter number less below h e. absurd (omega (arith, less)) }

pub led-next : (a : Automaton) (canon order : List ℕ) (place letter : ℕ) → get_or canon (next_state a (get_or order place 0) letter) 0 ≡ led_in a canon order (place + 1) letter
led-next a canon order place letter = ap (λ r. led_in a canon order r letter) (let e : suc place ≡ place + 1 = omega arith in e)

-- the rows that an order is closed under
pub order-closed : {a : Automaton} {canon order : List ℕ} {rows : ℕ} → IsOrderTo a canon order rows → (row letter : ℕ) → row < rows + 1
    → letter < width a → Contains order (led_in a canon order row letter)
order-closed o zero letter less below = o.first letter below
order-closed o (suc place) letter less below = o.next place letter (omega (arith, less)) below

-- a place in a row comes after all places of the rows before
row_before : (width : ℕ) (e row letter earlier : ℕ) → earlier < width → (e < row) ⊎ ((e ≡ row) × (earlier < letter)) → e * width + earlier < row * width + letter
row_before width e row letter earlier low (inr same) = let s = same.0 in let l = same.1 in subst (λ r. e * width + earlier < r * width + letter) s (omega (arith, l))
row_before width e zero letter earlier low (inl less) = absurd (omega (arith, less))
row_before width e (suc row) letter earlier low (inl less) =
    let rest = rows_apart e row (omega (arith, less)) in
    omega (arith, low, rest)
  where
    rows_apart : (e row : ℕ) → e ≤ row → e * width ≤ row * width
    rows_apart zero row h = omega arith
    rows_apart (suc e) zero h = absurd (omega (arith, h))
    rows_apart (suc e) (suc row) h = let r = rows_apart e row (omega (arith, h)) in omega (arith, r)

module _ (a : Automaton) (canon order : List ℕ) (m : Automaton) (q : IsQuotientBy a canon order m) (n : IsNumberedTo a canon order (length order + 1)) where
  -- the state to which a letter leads in a row of the automaton
  abbrev state_in : ℕ → ℕ → ℕ
  state_in zero letter = first_state m letter
  state_in (suc place) letter = next_state m place letter

  same_width : width m ≡ width a
  same_width = ap (λ t. 2 ^ length t) q.tracks

  state_within : (row letter : ℕ) → state_in row letter < length order
  state_within zero letter = let w = first_within q.valid letter in omega (arith, w, q.size)
  state_within (suc place) letter = let w = next_within q.valid place letter in omega (arith, w, q.size)

  leads_in : (row letter : ℕ) → row ≤ length order → letter < width a → get_or order (state_in row letter) 0 ≡ led_in a canon order row letter
  leads_in zero letter within below = q.first letter below
  leads_in (suc place) letter within below = q.next place letter (omega (arith, within)) below

  mention_at : (row letter : ℕ) → row ≤ length order → letter < width a → get_or (mentions m) (row * width a + letter) 0 ≡ state_in row letter
  mention_at zero letter within below =
      get_or_append_left m.first m.next 0 (0 * width a + letter) (let s = q.valid.first_size in omega (arith, s, same_width, below))
      ∙ ap (λ k. get_or m.first k 0) (let z : 0 * width a + letter ≡ letter = omega arith in z)
  mention_at (suc place) letter within below =
      let size = q.valid.first_size ∙ same_width in
      get_or-append_right m.first m.next (width a) (suc place * width a + letter) 0 size (omega arith)
      ∙ ap (λ k. get_or m.next k 0) (let z : suc place * width a + letter - width a ≡ place * width a + letter = omega arith in z)
      ∙ ap (λ w. get_or m.next (place * w + letter) 0) (sym same_width)

  mention_before : (row letter number : ℕ) → row ≤ length order → letter < width a → state_in row letter ≡ number + 1
      → (earlier : ℕ) × (earlier < row * width a + letter) × (get_or (mentions m) earlier 0 ≡ number)
  mention_before row letter number within below e =
      let inside : number + 1 < length order = let w = state_within row letter in omega (arith, w, e) in
      let b = n.before row letter number (omega (arith, within)) below inside (sym (leads_in row letter within below) ∙ ap (λ k. get_or order k 0) e) in
      let row_in = earlier_in b.before in
      let state = different_places order q.order_is.different (state_in b.earlier_row b.earlier) number (state_within b.earlier_row b.earlier)
      (omega (arith, inside)) (leads_in b.earlier_row b.earlier row_in b.below ∙ b.leads) in
      (b.earlier_row * width a + b.earlier, row_before (width a) b.earlier_row row letter b.earlier b.below b.before, mention_at b.earlier_row b.earlier row_in b.below ∙ state)
    where
      earlier_in : {r x l : ℕ} → (r < row) ⊎ ((r ≡ row) × (x < l)) → r ≤ length order
      earlier_in (inl b) = omega (arith, b, within)
      earlier_in (inr b) = let s = b.0 in omega (arith, s, within)

  pub IsNumbered-quotient : IsNumberedBreadthFirst m
  IsNumbered-quotient = record {
    before = λ place state within e.
        let row = place / width a in
        let letter = place % width a in
        let below = mod_below place (width a) (pow_pos (length a.tracks)) in
        let whole : place ≡ place / width a * width a + place % width a = div_whole place in
        let size = length-append m.first m.next in
        let first_size = q.valid.first_size ∙ same_width in
        let next_size = q.valid.next_size in
        let next : length m.next ≡ length order * width a = next_size ∙ ap (λ x. x * width m) q.size ∙ ap (λ x. length order * x) same_width in
        let row_in : place / width a ≤ length order =
        row_bound (place / width a) (length order) (place % width a) (omega (arith, whole, within, size, first_size, next)) in
        let b = mention_before (place / width a) (place % width a) state row_in below
        (sym (mention_at (place / width a) (place % width a) row_in below) ∙ ap (λ k. get_or (mentions m) k 0) (sym whole) ∙ e) in
        (b.0, subst (λ p. b.0 < p) (sym whole) b.1, b.2);
  }
    where
      div_whole : (place : ℕ) → place ≡ place / width a * width a + place % width a
      div_whole place = grind (arith, common_steps)

      row_bound : (row states letter : ℕ) → row * width a + letter < width a + states * width a → row ≤ states
      row_bound zero states letter h = omega arith
      row_bound (suc row) zero letter h = absurd (omega (arith, h))
      row_bound (suc row) (suc states) letter h = let r = row_bound row states letter (omega (arith, h)) in omega (arith, r)

pub quotient_numbered : {a m : Automaton} → IsQuotient a m → IsNumberedBreadthFirst m
quotient_numbered {a} {m} q = IsNumbered-quotient a q.canon q.order m q.quotient q.numbered
