-- The automaton over the places of an order of canonical states, and what it accepts.
use Rattle.std.proofs.Common.{◌≡◌, ◌≢◌, ℕ, zero, suc, ◌<◌, ◌≤◌, ◌%◌, ◌^◌, Bool, List, [], ◌∷◌, length, get_or, drop, Contains, AllPairs, All, arith, refl, sym, ap, ◌∙◌, subst, inl, inr}
use Rattle.std.proofs.lemmas.Bool.{cases_order}
use Rattle.std.proofs.lemmas.List.Elements.{All-cons, All-head, All-tail, All-get_or, All-from_get_or}
use Rattle.track_word.specs.Word.{IsWord}
use Rattle.letter_diagram.specs.declared.diagrams.Shape.{Shape}
use Rattle.letter_diagram.specs.Diagram.{map_at, LooksBelow}
use Rattle.letter_diagram.specs.Listed.{EachAnswers}
use Rattle.auto_core.specs.Automaton.{Automaton, width, first_state, next_state, run, state_of, is_final}
use Rattle.auto_core.specs.Reduced.{IsReduced, ToldApart}
use Rattle.auto_core.specs.Rows.{AreRows, IsOverNodes, dense}
use Rattle.auto_core.proofs.RowLemmas.{get_or-row_of, next_state-dense, IsAutomaton-dense}
use Rattle.auto_refine.specs.Picked.{ArePicked, AreFlags}
use Rattle.auto_refine.specs.Leading.{entry_at, IsLedFrom}
use Rattle.auto_reduce.specs.Quotient.{IsCanonical, IsMet, IsOrder, AreNumbers, AreClassNumbers, IsQuotientBy}
use Rattle.auto_reduce.specs.Numbering.{IsQuotient}
use Rattle.auto_core.specs.Words.{HasSameWords}
use Rattle.auto_core.proofs.States.{state_within, run_within}
use Rattle.auto_refine.proofs.States.{first_within, next_within}
use Rattle.auto_reduce.proofs.Orders.{place_in}
use Rattle.auto_reduce.proofs.Leads.{LeadsTo, leads_low, leads-first, leads-row, canon_within, order_within, order_few, order_some}
use Rattle.auto_refine.proofs.Stales.{All-picked}

-- a node that gives the numbers of the values of a row
pub record IsNumbered (shapes : List Shape) (row : ℕ → ℕ) (numbers : List ℕ) (made : ℕ) : Type 0 where
  pub known : made < length shapes
  pub map : (letter : ℕ) → map_at shapes made letter ≡ get_or numbers (row letter) 0

pub different_places : (xs : List ℕ) → AllPairs (λ x y. x ≢ y) xs → (i j : ℕ) → i < length xs → j < length xs → get_or xs i 0 ≡ get_or xs j 0 → i ≡ j
different_places xs apart i j iw jw e = elim (cases_order i j) [
  | inl same ↦ same
  | inr (inl less) ↦ absurd (apart i j 0 less jw e)
  | inr (inr more) ↦ absurd (apart j i 0 more iw (sym e))
]

module _ (a : Automaton) (canon : List ℕ) (shapes : List Shape) (order numbers : List ℕ) (c : IsCanonical a canon) (o : IsOrder a canon order)
    (n : AreNumbers order (length a.accept) numbers) where
  module _ (row : ℕ → ℕ) (made : ℕ) (state : ℕ → ℕ) (l : LeadsTo a canon row state) (m : IsNumbered shapes row numbers made)
      (within : (letter : ℕ) → state letter < length a.accept) (there : (letter : ℕ) → letter < width a → Contains order (get_or canon (state letter) 0)) where
    pub made_narrow : LooksBelow shapes made (length a.tracks)
    made_narrow = record { same = λ x y agree. m.map x ∙ ap (λ v. get_or numbers v 0) (l.narrow x y agree) ∙ sym (m.map y) }

    pub made_within : (letter : ℕ) → map_at shapes made letter < length order
    made_within letter =
        let value = leads_low a canon row state l letter in
        let known = canon_within c (state (letter % width a)) (within (letter % width a)) in
        let size = n.size in
        let number = All-get_or (λ k. k < length order) numbers (row letter) 0 (omega (arith, value, known, size)) n.within in
        let e = m.map letter in
        omega (arith, number, e)

    pub made_leads : (letter : ℕ) → letter < width a → get_or order (map_at shapes made letter) 0 ≡ get_or canon (state letter) 0
    made_leads letter below =
        let p = place_in order _ (there letter below) in
        let number = ap (λ v. get_or numbers v 0) (l.leads letter below ∙ sym p.2) ∙ n.at p.0 p.1 in
        ap (λ k. get_or order k 0) (m.map letter ∙ number) ∙ p.2

  -- the first row and the rows of the states of the order, read as canonical states
  module _ (over : IsOverNodes a) (first' : ℕ) (rows' : List ℕ) (flags : List Bool)
      (f : IsNumbered shapes (entry_at canon a.shapes a.first_node) numbers first') (row_count : length rows' ≡ length order)
      (row_at : (k : ℕ) → k < length order
      → IsNumbered shapes (entry_at canon a.shapes (get_or a.row_nodes (get_or order k 0) 0)) numbers (get_or rows' k 0))
      (are_flags : AreFlags a order flags) where
    row_of_place : (k : ℕ) → k < length order → LeadsTo a canon (entry_at canon a.shapes (get_or a.row_nodes (get_or order k 0) 0)) (next_state a (get_or order k 0))
    row_of_place k h = leads-row a canon over (get_or order k 0) (All-get_or (λ s. s < length a.accept) order k 0 h (order_within c o))

    row_narrow : (k : ℕ) → k < length order → LooksBelow shapes (get_or rows' k 0) (length a.tracks)
    row_narrow k h = made_narrow _ _ (next_state a (get_or order k 0)) (row_of_place k h) (row_at k h) (next_within c.valid (get_or order k 0)) (λ letter below. o.next k letter h below)

    row_within : (k : ℕ) → k < length order → (letter : ℕ) → map_at shapes (get_or rows' k 0) letter < length order
    row_within k h = made_within _ _ (next_state a (get_or order k 0)) (row_of_place k h) (row_at k h) (next_within c.valid (get_or order k 0)) (λ letter below. o.next k letter h below)

    row_leads : (k letter : ℕ) → k < length order → letter < width a → get_or order (map_at shapes (get_or rows' k 0) letter) 0 ≡ get_or canon (next_state a (get_or order k 0) letter) 0
    row_leads k letter h below = made_leads _ _ (next_state a (get_or order k 0)) (row_of_place k h) (row_at k h) (next_within c.valid (get_or order k 0)) (λ l b. o.next k l h b) letter below

    pub AreRows-quotient : AreRows a.tracks shapes first' rows' flags
    AreRows-quotient =
        let some = order_some c o in
        let few = order_few c o in
        let states = are_flags.size in
        let narrow = made_narrow _ first' (first_state a) (leads-first a canon over) f (first_within c.valid) o.first in
        let within = made_within _ first' (first_state a) (leads-first a canon over) f (first_within c.valid) o.first in
        record {
          ascending = c.valid.ascending;
          few_tracks = c.valid.few_tracks;
          some_state = omega (arith, some, states);
          few_states = omega (arith, few, states, c.valid.few_states);
          rows_size = row_count ∙ sym states;
          first_known = f.known;
          first_narrow = narrow;
          first_within = λ letter. let w = within letter in omega (arith, w, states);
          rows_known = All-from_get_or (λ node. node < length shapes) rows' 0 (λ k h. (row_at k (omega (arith, row_count, h))).known);
          rows_narrow = All-from_get_or (λ node. LooksBelow shapes node (length a.tracks)) rows' 0 (λ k h. row_narrow k (omega (arith, row_count, h)));
          rows_within = All-from_get_or (λ node. (letter : ℕ) → map_at shapes node letter < length flags) rows' 0
              (λ k h letter. let w = row_within k (omega (arith, row_count, h)) letter in omega (arith, w, states));
        }

    pub IsQuotientBy-dense : IsQuotientBy a canon order (dense a.tracks shapes first' rows' flags)
    IsQuotientBy-dense = record {
      valid = IsAutomaton-dense AreRows-quotient;
      canonical = c;
      order_is = o;
      tracks = refl;
      size = are_flags.size;
      first = λ letter below. ap (λ k. get_or order k 0) (get_or-row_of shapes (width a) first' letter below) ∙ made_leads _ first' (first_state a)
          (leads-first a canon over) f (first_within c.valid) o.first letter below;
      next = λ place letter h below.
          ap (λ k. get_or order k 0) (next_state-dense a.tracks shapes first' rows' flags AreRows-quotient place letter (get_or rows' place 0) (omega (arith, h, are_flags.size)) below
          (same_default rows' place (omega (arith, h, row_count)))) ∙ row_leads place letter h below;
      final = are_flags.at;
    }
      where
        same_default : (xs : List ℕ) (k : ℕ) → k < length xs → get_or xs k 0 ≡ get_or xs k (get_or xs k 0)
        same_default (x ∷ xs) zero h = refl
        same_default (x ∷ xs) (suc k) h = same_default xs k (omega (arith, h))
        same_default [] k h = absurd (omega (arith, h))

each-first : {R : ℕ → ℕ → Type 0} (node : ℕ) (nodes : List ℕ) {answers : List ℕ} → EachAnswers R (node ∷ nodes) answers → R node (get_or answers 0 0)
each-first {R = R} node nodes all = all.each 0 (omega arith)

each-rest : {R : ℕ → ℕ → Type 0} (node : ℕ) (nodes : List ℕ) {answers : List ℕ} → EachAnswers R (node ∷ nodes) answers → EachAnswers R nodes (drop 1 answers)
each-rest {R = R} node nodes {answers = []} all = let size = all.size in absurd (omega (arith, size))
each-rest {R = R} node nodes {answers = answer ∷ answers} all = let size = all.size in record { size = omega (arith, size); each = λ i within. all.each (suc i) (omega (arith, within)) }

-- the first row and the rows of the states of an order, led to the numbers of their canonical states
module _ {a : Automaton} {canon order numbers table picked : List ℕ} (over : IsOverNodes a) (c : IsCanonical a canon) (o : IsOrder a canon order)
    (n : AreNumbers order (length a.accept) numbers) (t : AreClassNumbers canon numbers table) (is_picked : ArePicked a.row_nodes order picked) where
  states_within : All (λ state. state < length a.row_nodes) order
  states_within = rw over.nodes.rows_size (order_within c o)

  pub table_size : length table ≡ length a.accept
  table_size = t.size ∙ c.size

  pub all_known : All (λ node. node < length a.shapes) (a.first_node ∷ picked)
  all_known = All-cons (λ node. node < length a.shapes) a.first_node picked over.nodes.first_known
      (All-picked (λ node. node < length a.shapes) picked is_picked states_within over.nodes.rows_known)

  pub all_in_table : All (λ node. (letter : ℕ) → map_at a.shapes node letter < length table) (a.first_node ∷ picked)
  all_in_table = rw table_size (All-cons (λ node. (letter : ℕ) → map_at a.shapes node letter < length a.accept) a.first_node picked over.nodes.first_within
      (All-picked (λ node. (letter : ℕ) → map_at a.shapes node letter < length a.accept) picked is_picked states_within over.nodes.rows_within))

  numbered : (shapes : List Shape) (node made : ℕ) → ((letter : ℕ) → map_at a.shapes node letter < length a.accept)
      → IsLedFrom a.shapes shapes table node made → IsNumbered shapes (entry_at canon a.shapes node) numbers made
  numbered shapes node made within l = record {
    known = l.known;
    map = λ letter. l.map letter ∙ t.at (map_at a.shapes node letter) (let w = within letter in let s = c.size in omega (arith, w, s));
  }

  module _ (shapes : List Shape) (answers : List ℕ) (led : EachAnswers (IsLedFrom a.shapes shapes table) (a.first_node ∷ picked) answers)
      (flags : List Bool) (are_flags : AreFlags a order flags) where
    each : EachAnswers (IsLedFrom a.shapes shapes table) picked (drop 1 answers)
    each = each-rest a.first_node picked led

    numbered_first : IsNumbered shapes (entry_at canon a.shapes a.first_node) numbers (get_or answers 0 0)
    numbered_first = numbered shapes a.first_node (get_or answers 0 0) over.nodes.first_within (each-first a.first_node picked led)

    numbered_row : (k : ℕ) → k < length order → IsNumbered shapes (entry_at canon a.shapes (get_or a.row_nodes (get_or order k 0) 0)) numbers (get_or (drop 1 answers) k 0)
    numbered_row k h =
        let node = get_or a.row_nodes (get_or order k 0) 0 in
        let state : get_or order k 0 < length a.row_nodes = All-get_or (λ s. s < length a.row_nodes) order k 0 h states_within in
        let within = All-get_or (λ n. (letter : ℕ) → map_at a.shapes n letter < length a.accept) a.row_nodes (get_or order k 0) 0 state over.nodes.rows_within in
        numbered shapes node (get_or (drop 1 answers) k 0) within
        (subst (λ n. IsLedFrom a.shapes shapes table n (get_or (drop 1 answers) k 0)) (is_picked.at k h) (each.each k (let s = is_picked.size in omega (arith, h, s))))

    row_count : length (drop 1 answers) ≡ length order
    row_count = each.size ∙ is_picked.size

    pub AreRows-made : AreRows a.tracks shapes (get_or answers 0 0) (drop 1 answers) flags
    AreRows-made = AreRows-quotient a canon shapes order numbers c o n over (get_or answers 0 0) (drop 1 answers) flags numbered_first row_count numbered_row are_flags

    pub IsQuotientBy-made : IsQuotientBy a canon order (dense a.tracks shapes (get_or answers 0 0) (drop 1 answers) flags)
    IsQuotientBy-made = IsQuotientBy-dense a canon shapes order numbers c o n over (get_or answers 0 0) (drop 1 answers) flags numbered_first row_count numbered_row are_flags

module _ (a : Automaton) (canon order : List ℕ) (m : Automaton) (q : IsQuotientBy a canon order m) where
  -- letters lead from the place of a canonical state to the place of a canonical state
  runs : (letters : List ℕ) (place state : ℕ) → place < length m.accept → state < length a.accept → All (λ l. l < width a) letters → get_or order place 0 ≡ get_or canon state 0
      → get_or order (run m place letters) 0 ≡ get_or canon (run a state letters) 0
  runs [] place state pw sw all e = e
  runs (letter ∷ letters) place state pw sw all e =
      let below = All-head (λ l. l < width a) letter letters all in
      runs letters (next_state m place letter) (next_state a state letter) (next_within q.valid place letter)
      (next_within q.canonical.valid state letter) (All-tail (λ l. l < width a) letter letters all)
      (q.next place letter (omega (arith, pw, q.size)) below ∙ ap (λ s. get_or canon (next_state a s letter) 0) e ∙ q.canonical.steps state letter sw below)

  pub words_lead : {word : List ℕ} → IsWord (length a.tracks) word → get_or order (state_of m word) 0 ≡ get_or canon (state_of a word) 0
  words_lead {word = []} w = absurd (w.nonempty refl)
  words_lead {word = sign ∷ letters} w =
      runs letters (first_state m sign) (first_state a sign) (first_within q.valid sign) (first_within q.canonical.valid sign) (All-tail (λ l. l < width a) sign letters w.letters)
      (q.first sign (All-head (λ l. l < width a) sign letters w.letters))

  flag_is : (place state : ℕ) → place < length m.accept → state < length a.accept → get_or order place 0 ≡ get_or canon state 0 → is_final m place ≡ is_final a state
  flag_is place state pw sw e = q.final place (omega (arith, pw, q.size)) ∙ ap (is_final a) e ∙ q.canonical.flags state sw

  pub words_are : HasSameWords a m
  words_are word w =
      let flag = flag_is (state_of m word) (state_of a word) (state_within q.valid word) (state_within q.canonical.valid word) (words_lead w) in
      (λ p. sym flag ∙ p, λ p. flag ∙ p)

  met_at : (place : ℕ) → place < length m.accept → IsMet a canon (get_or order place 0)
  met_at place h = All-get_or (IsMet a canon) order place 0 (omega (arith, h, q.size)) q.order_is.met

  leads_to : (place : ℕ) → (h : place < length m.accept) → state_of m (met_at place h).word ≡ place
  leads_to place h =
      let met = met_at place h in
      different_places order q.order_is.different (state_of m met.word) place (let w = state_within q.valid met.word in omega (arith, w, q.size))
      (omega (arith, h, q.size)) (words_lead met.is_word ∙ met.leads)

  -- letters that tell two states apart tell the places of their canonical states apart
  apart_at : (j k s t : ℕ) → j < length m.accept → k < length m.accept → s < length a.accept → t < length a.accept
      → get_or order j 0 ≡ get_or canon s 0 → get_or order k 0 ≡ get_or canon t 0 → ToldApart a s t → ToldApart m j k
  apart_at j k s t jw kw sw tw es et apart =
      let flag = λ (p u : ℕ) (pw : p < length m.accept) (uw : u < length a.accept) (e : get_or order p 0 ≡ get_or canon u 0).
      flag_is (run m p apart.letters) (run a u apart.letters) (run_within q.valid apart.letters p pw)
      (run_within q.canonical.valid apart.letters u uw) (runs apart.letters p u pw uw apart.are_letters e) in
      record {
        letters = apart.letters;
        are_letters = subst (λ ts. All (λ l. l < 2 ^ length ts) apart.letters) (sym q.tracks) apart.are_letters;
        differ = λ same. apart.differ (sym (flag j s jw sw es) ∙ same ∙ flag k t kw tw et);
      }

  pub IsReduced-quotient : IsReduced m
  IsReduced-quotient = record {
    reached = λ place h.
        let met = met_at place h in
        record { word = met.word; is_word = subst (λ ts. IsWord (length ts) met.word) (sym q.tracks) met.is_word; leads = leads_to place h };
    apart = λ j k jw kw other.
        let u = met_at j jw in
        let v = met_at k kw in
        let su = state_within q.canonical.valid u.word in
        let sv = state_within q.canonical.valid v.word in
        let differ = λ (e : get_or canon (state_of a u.word) 0 ≡ get_or canon (state_of a v.word) 0).
        other (different_places order q.order_is.different j k (omega (arith, jw, q.size)) (omega (arith, kw, q.size)) (sym u.leads ∙ e ∙ v.leads)) in
        apart_at j k (state_of a u.word) (state_of a v.word) jw kw su sv (sym u.leads) (sym v.leads) (q.canonical.apart _ _ su sv differ);
  }

pub quotient_words : {a m : Automaton} → IsQuotient a m → HasSameWords a m
quotient_words {a} {m} q word w = words_are a q.canon q.order m q.quotient word w

pub quotient_reduced : {a m : Automaton} → IsQuotient a m → IsReduced m
quotient_reduced {a} {m} q = IsReduced-quotient a q.canon q.order m q.quotient

pub quotient_tracks : {a m : Automaton} → IsQuotient a m → m.tracks ≡ a.tracks
quotient_tracks q = q.quotient.tracks

pub quotient_fewer : {a m : Automaton} → IsQuotient a m → length m.accept ≤ length a.accept
quotient_fewer q =
    let few = order_few q.quotient.canonical q.quotient.order_is in
    let size = q.quotient.size in
    omega (arith, few, size)
