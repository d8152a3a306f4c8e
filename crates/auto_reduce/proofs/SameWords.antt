-- Automata with equal tables accept the same words, and have rows of equal maps.
use Rattle.std.proofs.Common.{◌≡◌, ◌↔◌, ℕ, zero, suc, ◌<◌, ◌≤◌, ◌+◌, ◌*◌, ◌^◌, List, [], ◌∷◌, length, get_or, All, arith, refl, sym, ap, ◌∙◌, subst, false}
use Rattle.std.proofs.Math.Nat.{pow-le-pow_right}
use Rattle.std.proofs.lemmas.List.{ext_get_or}
use Rattle.std.proofs.lemmas.List.Elements.{All-get_or, All-cons, All-from_get_or}
use Rattle.track_word.specs.Word.{IsWord}
use Rattle.letter_diagram.specs.declared.diagrams.Shape.{Shape}
use Rattle.letter_diagram.specs.Diagram.{map_at, LooksBelow, Grows}
use Rattle.letter_diagram.specs.Listed.{EachAnswers}
use Rattle.letter_diagram.specs.Carried.{IsCarried}
use Rattle.auto_core.specs.Automaton.{Automaton, IsAutomaton, width, first_state, next_state, run, state_of, is_final}
use Rattle.auto_core.specs.Rows.{IsOverNodes}
use Rattle.auto_core.proofs.RowLemmas.{map_at-narrow}
use Rattle.auto_core.proofs.NodeMaps.{first-map}
use Rattle.auto_core.specs.Words.{HasSameWords}
use Rattle.auto_reduce.specs.Tables.{AcceptSameWords, HaveEqualTables, HaveEqualMaps}
use Rattle.auto_predecessors.proofs.RowNodes.{AreRowNodes-own}
use Rattle.auto_reduce.proofs.SameTables.{next_ext}

module _ (a b : Automaton) (tracks : a.tracks ≡ b.tracks) where
  same_width : width a ≡ width b
  same_width = ap (λ t. 2 ^ length t) tracks

  module _ (h : HaveEqualTables a b) where
    same_next_state : (state letter : ℕ) → next_state a state letter ≡ next_state b state letter
    same_next_state state letter = ap (λ l. get_or l (state * width a + letter) 0) h.next ∙ ap (λ w. get_or b.next (state * w + letter) 0) same_width

    same_run : (letters : List ℕ) (state : ℕ) → run a state letters ≡ run b state letters
    same_run [] state = refl
    same_run (letter ∷ letters) state = ap (λ s. run a s letters) (same_next_state state letter) ∙ same_run letters (next_state b state letter)

    same_state : (word : List ℕ) → state_of a word ≡ state_of b word
    same_state [] = refl
    same_state (sign ∷ letters) = ap (λ l. run a (get_or l sign 0) letters) h.first ∙ same_run letters (first_state b sign)

    pub AcceptSameWords-tables : AcceptSameWords a b
    AcceptSameWords-tables = record {
      same = λ word is.
          let flag = ap (is_final a) (same_state word) ∙ ap (λ l. get_or l (state_of b word) false) h.accept in
          (λ p. sym flag ∙ p, λ p. flag ∙ p);
    }

-- automata of the words of two others accept the same words where those do
pub AcceptSameWords-through : (a b m n : Automaton) → a.tracks ≡ b.tracks → m.tracks ≡ a.tracks
    → HasSameWords a m → HasSameWords b n → AcceptSameWords m n ↔ AcceptSameWords a b
AcceptSameWords-through a b m n tracks m_tracks m_words n_words = (
  λ h. record {
    same = λ word is.
        let mw = m_words word is in
        let nw = n_words word (subst (λ t. IsWord (length t) word) tracks is) in
        let s = h.same word (subst (λ t. IsWord (length t) word) (sym m_tracks) is) in
        (λ p. nw.0 (s.0 (mw.1 p)), λ p. mw.0 (s.1 (nw.1 p)));
  },
  λ h. record {
    same = λ word is_m.
        let is = subst (λ t. IsWord (length t) word) m_tracks is_m in
        let mw = m_words word is in
        let nw = n_words word (subst (λ t. IsWord (length t) word) tracks is) in
        let s = h.same word is in
        (λ p. nw.1 (s.0 (mw.0 p)), λ p. mw.1 (s.1 (nw.0 p)));
  },
)

-- ---- rows as nodes
-- the state to which a letter leads in the first row or, one row later each, in the row of a state
abbrev entry : Automaton → ℕ → ℕ → ℕ
entry a zero letter = first_state a letter
entry a (suc state) letter = next_state a state letter

abbrev nodes_of : Automaton → List ℕ
nodes_of a = a.first_node ∷ a.row_nodes

module _ (a : Automaton) (over : IsOverNodes a) where
  nodes_size : length (nodes_of a) ≡ suc (length a.accept)
  nodes_size = ap suc over.nodes.rows_size

  pub nodes_known : All (λ node. node < length a.shapes) (nodes_of a)
  nodes_known = All-cons (λ node. node < length a.shapes) a.first_node a.row_nodes over.nodes.first_known over.nodes.rows_known

  nodes_narrow : All (λ node. LooksBelow a.shapes node (length a.tracks)) (nodes_of a)
  nodes_narrow = All-cons (λ node. LooksBelow a.shapes node (length a.tracks)) a.first_node a.row_nodes over.nodes.first_narrow over.nodes.rows_narrow

  nodes_lead : (place letter : ℕ) → place < length (nodes_of a) → letter < width a → map_at a.shapes (get_or (nodes_of a) place 0) letter ≡ entry a place letter
  nodes_lead zero letter within below = first-map a over letter below
  nodes_lead (suc state) letter within below = (AreRowNodes-own over).leads state letter (omega (arith, within, nodes_size)) below

module _ (a b : Automaton) (is_a : IsAutomaton a) (is_b : IsAutomaton b) (over_a : IsOverNodes a) (over_b : IsOverNodes b) (tracks : a.tracks ≡ b.tracks) (flags : a.accept ≡ b.accept)
    (shapes : List Shape) (brought : List ℕ) (grows : Grows a.shapes shapes) (each : EachAnswers (IsCarried b.shapes shapes (λ letter. letter) (λ value. value)) (nodes_of b) brought) where
  sizes : length (nodes_of a) ≡ length (nodes_of b)
  sizes = nodes_size a over_a ∙ ap (λ l. suc (length l)) flags ∙ sym (nodes_size b over_b)

  pub brought_size : length (nodes_of a) ≡ length brought
  brought_size = sizes ∙ sym each.size

  pub own_known : All (λ node. node < length shapes) (nodes_of a)
  own_known = All-from_get_or (λ node. node < length shapes) (nodes_of a) 0 (λ place h.
      let l = grows.longer in
      let k = All-get_or (λ node. node < length a.shapes) (nodes_of a) place 0 h (nodes_known a over_a) in
      omega (arith, l, k))

  pub brought_known : All (λ node. node < length shapes) brought
  brought_known = All-from_get_or (λ node. node < length shapes) brought 0 (λ place h. (each.each place (let s = each.size in omega (arith, s, h))).known)

  own_map : (place letter : ℕ) → place < length (nodes_of a) → map_at shapes (get_or (nodes_of a) place 0) letter ≡ map_at a.shapes (get_or (nodes_of a) place 0) letter
  own_map place letter within = grows.map (get_or (nodes_of a) place 0) letter (All-get_or (λ node. node < length a.shapes) (nodes_of a) place 0 within (nodes_known a over_a))

  own_at : (place letter : ℕ) → place < length (nodes_of a) → letter < width a → map_at shapes (get_or (nodes_of a) place 0) letter ≡ entry a place letter
  own_at place letter within below = own_map place letter within ∙ nodes_lead a over_a place letter within below

  brought_map : (place letter : ℕ) → place < length (nodes_of a) → map_at shapes (get_or brought place 0) letter ≡ map_at b.shapes (get_or (nodes_of b) place 0) letter
  brought_map place letter within = (each.each place (omega (arith, sizes, within))).map letter

  brought_at : (place letter : ℕ) → place < length (nodes_of a) → letter < width a → map_at shapes (get_or brought place 0) letter ≡ entry b place letter
  brought_at place letter within below =
      brought_map place letter within ∙ nodes_lead b over_b place letter (omega (arith, sizes, within)) (subst (λ w. letter < w) (same_width a b tracks) below)

  own_narrow : (place : ℕ) → place < length (nodes_of a) → LooksBelow shapes (get_or (nodes_of a) place 0) (length a.tracks)
  own_narrow place within =
      let n = All-get_or (λ node. LooksBelow a.shapes node (length a.tracks)) (nodes_of a) place 0 within (nodes_narrow a over_a) in
      record { same = λ x y agree. own_map place x within ∙ n.same x y agree ∙ sym (own_map place y within) }

  brought_narrow : (place : ℕ) → place < length (nodes_of a) → LooksBelow shapes (get_or brought place 0) (length a.tracks)
  brought_narrow place within =
      let n = subst (λ t. LooksBelow b.shapes (get_or (nodes_of b) place 0) (length t)) (sym tracks)
      (All-get_or (λ node. LooksBelow b.shapes node (length b.tracks)) (nodes_of b) place 0 (omega (arith, sizes, within)) (nodes_narrow b over_b)) in
      record { same = λ x y agree. brought_map place x within ∙ n.same x y agree ∙ sym (brought_map place y within) }

  pub HaveEqualTables-maps : HaveEqualMaps shapes (nodes_of a) brought → HaveEqualTables a b
  HaveEqualTables-maps maps = record {
    first =
        let size_a = is_a.first_size in
        let size_b = is_b.first_size in
        let w = same_width a b tracks in
        ext_get_or 0 a.first b.first (omega (arith, size_a, size_b, w)) (λ letter within. same_entry zero letter (omega arith) (omega (arith, within, size_a)));
    next = next_ext is_a is_b (same_width a b tracks) (ap length flags)
        (λ state letter within below. same_entry (suc state) letter (let s = nodes_size a over_a in omega (arith, s, within)) below);
    accept = flags;
  }
    where
      same_entry : (place letter : ℕ) → place < length (nodes_of a) → letter < width a → entry a place letter ≡ entry b place letter
      same_entry place letter within below =
          let few = is_a.few_tracks in
          let wide : width a ≤ 2 ^ 20 = pow-le-pow_right (omega arith) few in
          sym (own_at place letter within below) ∙ maps.at place letter within (omega (arith, below, wide)) ∙ brought_at place letter within below

  pub HaveEqualMaps-tables : HaveEqualTables a b → HaveEqualMaps shapes (nodes_of a) brought
  HaveEqualMaps-tables h = record {
    at = λ place letter within below.
        map_at-narrow (own_narrow place within) (brought_narrow place within)
        (λ low low_below. own_at place low within low_below ∙ same_entry place low ∙ sym (brought_at place low within low_below)) letter;
  }
    where
      same_entry : (place letter : ℕ) → entry a place letter ≡ entry b place letter
      same_entry zero letter = ap (λ l. get_or l letter 0) h.first
      same_entry (suc state) letter = same_next_state a b tracks h state letter
