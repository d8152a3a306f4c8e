-- TrackRows over the tracks that are left and the lost one after them, and what merging that track makes of them.
use Rattle.std.proofs.Common.{◌≡◌, ◌≢◌, ◌⊎◌, ◌↔◌, ℕ, ◌<◌, ◌+◌, ◌*◌, ◌%◌, ◌^◌, List, [], ◌∷◌, length, map, get_or, Contains, arith, refl, sym, ap, ◌∙◌, subst, inl, inr}
use Rattle.std.specs.List.{All}
use Rattle.std.specs.Int.{bit_at}
use Rattle.std.proofs.lemmas.Bool.{cases_eq, cases_lt}
use Rattle.std.proofs.lemmas.List.Elements.{All-from_get_or}
use Rattle.std.proofs.lemmas.Option.{slice_get-get_or, slice_get_within, get_or_from_slice_get}
use Rattle.track_word.specs.declared.tracks.Var.{Var}
use Rattle.track_word.specs.Tracks.{without_var, place, restrict}
use Rattle.track_word.proofs.LetterBits.{bit_cases}
use Rattle.letter_diagram.specs.declared.diagrams.Shape.{Shape}
use Rattle.letter_diagram.specs.Diagram.{map_at, Grows}
use Rattle.letter_diagram.specs.Sets.{set_at, SetsKept}
use Rattle.letter_diagram.specs.Relabelled.{relabelled}
use Rattle.letter_diagram.specs.Listed.{EachAnswers}
use Rattle.letter_diagram.specs.Merged.{IsWithBit}
use Rattle.letter_diagram.specs.Merged.{HasSets, IsMerged}
use Rattle.letter_diagram.proofs.Canonical.{flip, bit_at-flip_same, bit_at-flip_other}
use Rattle.auto_core.specs.Automaton.{Automaton, IsAutomaton, width, first_state, next_state}
use Rattle.auto_core.specs.Rows.{IsOverNodes}
use Rattle.auto_core.proofs.NodeMaps.{first-map, row-map}
use Rattle.auto_core.proofs.Renamed.{AreRenamed}
use Rattle.auto_core.proofs.Restricted.{relabelled-places, restrict-below}
use Rattle.auto_project.specs.Lifted.{ReadsAs, Begins, Follows}
use Rattle.auto_project.specs.Subsets.{lengthened}
use Rattle.auto_project.specs.SetMaps.{set_of, IsNarrow, IsSetRow, HasSetRows, AreSingletons, IsWideRow, AreWideRows, HasWideRows}
use Rattle.auto_project.proofs.Lists.{Contains-cases, Contains-head}
use Rattle.auto_project.proofs.Letters.{restrict-agree, places-left, ReadsAs-lengthened, lengthened-or, lengthened-only, lengthened-with, places-only}

-- the rows as they are relabelled
module _ (a : Automaton) (valid : IsAutomaton a) (over : IsOverNodes a) (some : List Var) where
  pub IsWideRow-made : (shapes : List Shape) (source node : ℕ) (value : ℕ → ℕ) → node < length shapes → ((letter : ℕ) → map_at a.shapes source letter < length a.accept)
      → ((letter : ℕ) → letter < width a → map_at a.shapes source letter ≡ value letter)
      → ((letter : ℕ) → map_at shapes node letter ≡ map_at a.shapes source (relabelled (map (place some) a.tracks) letter)) → IsWideRow shapes a some node value
  IsWideRow-made shapes source node value known within says maps =
      let reads = λ (letter : ℕ). maps letter ∙ ap (map_at a.shapes source) (relabelled-places some a.tracks letter) in
      record {
        known = known;
        within = λ letter. subst (λ n. n < length a.accept) (sym (reads letter)) (within (restrict some a.tracks letter));
        reads = λ letter. reads letter ∙ says (restrict some a.tracks letter) (restrict-below some a.tracks letter);
      }

  pub HasWideRows-renamed : {shapes : List Shape} {first : ℕ} {rows : List ℕ} → AreRenamed a shapes (map (place some) a.tracks) first rows → HasWideRows shapes a some first rows
  HasWideRows-renamed {shapes} {first} {rows} are = record {
    valid = valid;
    first_row = IsWideRow-made shapes a.first_node first (first_state a) are.first_known over.nodes.first_within (first-map a over) are.first_is;
    state_rows = record {
      size = are.count ∙ over.nodes.rows_size;
      each = λ state node at.
          let within = slice_get_within rows state node at in
          let count = are.count in
          let known : state < length a.row_nodes = omega (arith, within, count) in
          let here = get_or_from_slice_get rows state node 0 at in
          IsWideRow-made shapes (get_or a.row_nodes state 0) node (next_state a state)
          (subst (λ n. n < length shapes) here (are.rows_known state known)) (over.nodes.rows_within state 0 known)
          (λ letter below. row-map a over state letter known below)
          (λ letter. ap (λ n. map_at shapes n letter) (sym here) ∙ are.rows_are state letter known);
    };
  }

module _ (a : Automaton) (x : Var) (valid : IsAutomaton a) where
  only-single : (m n : ℕ) → Contains (m ∷ []) n → m ≡ n
  only-single m n c = elim (Contains-cases m [] n c) [ inl e ↦ e | inr none ↦ let h = none.1 in absurd (omega arith) ]

  single-at : {sets : List (List ℕ)} (number : ℕ) → AreSingletons sets (length a.accept) → number < length a.accept → set_at sets number ≡ number ∷ []
  single-at {sets} number singles h = get_or_from_slice_get sets number (number ∷ []) [] (singles.single number h)

  -- the numbers of a wide row are numbers of sets
  pub wide-sets : {shapes : List Shape} {sets : List (List ℕ)} {node : ℕ} {value : ℕ → ℕ} → AreSingletons sets (length a.accept)
      → IsWideRow shapes a (without_var x a.tracks) node value → HasSets shapes sets node
  wide-sets singles row = record {
    known = row.known;
    numbered = λ letter. let w = row.within letter in let e = singles.enough in omega (arith, w, e);
  }

  -- what a value of the letters that read as a letter is
  record Reads (letter state : ℕ) (value : ℕ → ℕ) : Type 0 where
    pub longer : ℕ
    pub is : ReadsAs a.tracks (without_var x a.tracks) letter longer
    pub leads : value longer ≡ state

  -- both letters that differ from a letter in a track alone
  with-off : (letter track : ℕ) → (other : ℕ) × IsWithBit other letter track 0
  with-off letter track = elim (bit_cases letter track) [
    | inl z ↦ (letter, record { same = λ k ne. refl; at = z })
    | inr o ↦ (flip letter track, record { same = λ k ne. bit_at-flip_other letter track k ne; at = bit_at-flip_same letter track ∙ ap (λ n. (n + 1) % 2) o })
  ]

  with-on : (letter track : ℕ) → (other : ℕ) × IsWithBit other letter track 1
  with-on letter track = elim (bit_cases letter track) [
    | inl z ↦ (flip letter track, record { same = λ k ne. bit_at-flip_other letter track k ne; at = bit_at-flip_same letter track ∙ ap (λ n. (n + 1) % 2) z })
    | inr o ↦ (letter, record { same = λ k ne. refl; at = o })
  ]

  -- two letters with one bit that agree below agree up to the track
  agree-with : {m n p q track bit : ℕ} → IsWithBit p m track bit → IsWithBit q n track bit → ((k : ℕ) → k < track → bit_at m k ≡ bit_at n k)
      → (k : ℕ) → k < track + 1 → bit_at p k ≡ bit_at q k
  agree-with {p} {q} {track} is_p is_q agree k h = elim (cases_eq k track) [
    | inl e ↦ ap (bit_at p) e ∙ is_p.at ∙ sym (is_q.at) ∙ ap (bit_at q) (sym e)
    | inr ne ↦ is_p.same k ne ∙ agree k (below k ne h) ∙ sym (is_q.same k ne)
  ]
    where
      below : (k : ℕ) → k ≢ track → k < track + 1 → k < track
      below k ne h = elim (cases_lt k track) [ inl less ↦ less | inr past ↦ absurd (ne (omega arith)) ]

  -- the sets of a merged row
  module _ (old shapes : List Shape) (before sets : List (List ℕ)) (node merged : ℕ) (value : ℕ → ℕ)
      (singles : AreSingletons before (length a.accept)) (row : IsWideRow old a (without_var x a.tracks) node value) (grows : Grows old shapes)
      (kept : SetsKept before sets)
      (is : IsMerged shapes sets (length (without_var x a.tracks)) node merged) where
    value-at : (letter : ℕ) → map_at shapes node letter ≡ value (restrict (without_var x a.tracks) a.tracks letter)
    value-at letter = grows.map node letter row.known ∙ row.reads letter

    single-now : (letter : ℕ) → set_at sets (map_at shapes node letter) ≡ value (restrict (without_var x a.tracks) a.tracks letter) ∷ []
    single-now letter =
        let within = row.within letter in
        ap (set_at sets) (grows.map node letter row.known)
        ∙ get_or_from_slice_get sets (map_at old node letter) (map_at old node letter ∷ []) []
        (kept.at (map_at old node letter) (map_at old node letter ∷ []) (singles.single (map_at old node letter) within))
        ∙ ap (λ n. n ∷ []) (row.reads letter)

    -- the states at both bits
    both-bits : {letter off on : ℕ} (state : ℕ) → IsWithBit off letter (length (without_var x a.tracks)) 0 → IsWithBit on letter (length (without_var x a.tracks)) 1
        → Contains (set_of shapes sets merged letter) state
        ↔ ((value (restrict (without_var x a.tracks) a.tracks off) ≡ state) ⊎ (value (restrict (without_var x a.tracks) a.tracks on) ≡ state))
    both-bits {letter} {off} {on} state is_off is_on =
        let union = (is.map letter off on is_off is_on).members state in (
          λ c. elim (union.0 c) [
            | inl l ↦ inl (only-single _ state (subst (λ set. Contains set state) (single-now off) l))
            | inr r ↦ inr (only-single _ state (subst (λ set. Contains set state) (single-now on) r))
          ],
          λ e. union.1 (elim e [
            | inl l ↦ inl (subst (λ set. Contains set state) (sym (single-now off ∙ ap (λ n. n ∷ []) l)) (Contains-head state []))
            | inr r ↦ inr (subst (λ set. Contains set state) (sym (single-now on ∙ ap (λ n. n ∷ []) r)) (Contains-head state []))
          ]),
        )

    merged-narrow : IsNarrow shapes sets (length (without_var x a.tracks)) merged
    merged-narrow = record {
      same = λ m n state agree c.
          let track = length (without_var x a.tracks) in
          let m_off = with-off m (length (without_var x a.tracks)) in
          let m_on = with-on m (length (without_var x a.tracks)) in
          let n_off = with-off n (length (without_var x a.tracks)) in
          let n_on = with-on n (length (without_var x a.tracks)) in
          let off =
          restrict-agree (without_var x a.tracks) a.tracks (length (without_var x a.tracks) + 1) m_off.0 n_off.0
          (places-left a.tracks x valid.ascending)
          (agree-with m_off.1 n_off.1 agree) in
          let on =
          restrict-agree (without_var x a.tracks) a.tracks (length (without_var x a.tracks) + 1) m_on.0 n_on.0
          (places-left a.tracks x valid.ascending) (agree-with m_on.1 n_on.1 agree) in
          (both-bits state n_off.1 n_on.1).1 (elim ((both-bits state m_off.1 m_on.1).0 c) [
            | inl l ↦ inl (ap value (sym off) ∙ l)
            | inr r ↦ inr (ap value (sym on) ∙ r)
          ]);
    }

    reads-either : (letter state : ℕ) → letter < 2 ^ length (without_var x a.tracks) → Contains (set_of shapes sets merged letter) state → Reads letter state value
    reads-either letter state below c =
        let off = with-off letter (length (without_var x a.tracks)) in
        let on = with-on letter (length (without_var x a.tracks)) in
        elim ((both-bits state off.1 on.1).0 c) [
          | inl l ↦ record {
            longer = lengthened a.tracks (without_var x a.tracks) 0 letter;
            is = ReadsAs-lengthened a.tracks x valid.ascending letter 0 below;
            leads = ap value (sym (lengthened-with a.tracks x valid.ascending 0 below (omega arith) off.1)) ∙ l;
          }
          | inr r ↦ record {
            longer = lengthened a.tracks (without_var x a.tracks) 1 letter;
            is = ReadsAs-lengthened a.tracks x valid.ascending letter 1 below;
            leads = ap value (sym (lengthened-with a.tracks x valid.ascending 1 below (omega arith) on.1)) ∙ r;
          }
        ]

    either-reads : {letter state : ℕ} → letter < 2 ^ length (without_var x a.tracks) → Reads letter state value → Contains (set_of shapes sets merged letter) state
    either-reads {letter} {state} below r =
        let off = with-off letter (length (without_var x a.tracks)) in
        let on = with-on letter (length (without_var x a.tracks)) in
        (both-bits state off.1 on.1).1 (elim (lengthened-or a.tracks x valid.ascending r.is) [
          | inl e ↦ inl (ap value (lengthened-with a.tracks x valid.ascending 0 below (omega arith) off.1 ∙ sym e) ∙ r.leads)
          | inr e ↦ inr (ap value (lengthened-with a.tracks x valid.ascending 1 below (omega arith) on.1 ∙ sym e) ∙ r.leads)
        ])

    IsSetRow-merged : (Holds : ℕ → ℕ → Type 0) → ((letter state : ℕ) → Reads letter state value → Holds letter state)
        → ((letter state : ℕ) → Holds letter state → Reads letter state value) → IsSetRow shapes sets (length (without_var x a.tracks)) merged Holds
    IsSetRow-merged Holds to from = record {
      is =
          record {
            known = is.known;
            numbered = λ letter. let off = with-off letter (length (without_var x a.tracks)) in
                let on = with-on letter (length (without_var x a.tracks)) in (is.map letter off.0 on.0 off.1 on.1).known;
          };
      narrow = merged-narrow;
      members = λ letter state below. (λ c. to letter state (reads-either letter state below c), λ h. either-reads below (from letter state h));
    }

  -- the sets of a wide row where no track is lost
  module _ (shapes : List Shape) (sets : List (List ℕ)) (node : ℕ) (value : ℕ → ℕ) (singles : AreSingletons sets (length a.accept))
      (row : IsWideRow shapes a (without_var x a.tracks) node value) (same : length (without_var x a.tracks) ≡ length a.tracks) where
    single-of : (letter : ℕ) → set_of shapes sets node letter ≡ value (restrict (without_var x a.tracks) a.tracks letter) ∷ []
    single-of letter = single-at (map_at shapes node letter) singles (row.within letter) ∙ ap (λ n. n ∷ []) (row.reads letter)

    shorter : (letter : ℕ) → restrict (without_var x a.tracks) a.tracks letter ≡ lengthened a.tracks (without_var x a.tracks) 0 letter
    shorter letter = ap (restrict (without_var x a.tracks) a.tracks) (let e : letter ≡ letter + 0 * 2 ^ length (without_var x a.tracks) = omega arith in e)

    IsSetRow-wide : (Holds : ℕ → ℕ → Type 0) → ((letter state : ℕ) → Reads letter state value → Holds letter state)
        → ((letter state : ℕ) → Holds letter state → Reads letter state value) → IsSetRow shapes sets (length (without_var x a.tracks)) node Holds
    IsSetRow-wide Holds to from = record {
      is = wide-sets singles row;
      narrow = record {
        same = λ m n state agree c.
            let alike = restrict-agree (without_var x a.tracks) a.tracks (length (without_var x a.tracks)) m n (places-only a.tracks x valid.ascending same) agree in
            subst (λ set. Contains set state) (single-of m ∙ ap (λ l. value l ∷ []) alike ∙ sym (single-of n)) c;
      };
      members = λ letter state below. (
        λ c. to letter state (record {
          longer = lengthened a.tracks (without_var x a.tracks) 0 letter;
          is = ReadsAs-lengthened a.tracks x valid.ascending letter 0 below;
          leads = ap value (sym (shorter letter)) ∙ only-single _ state (subst (λ set. Contains set state) (single-of letter) c);
        }),
        λ h.
            let r = from letter state h in
            let e = lengthened-only a.tracks x valid.ascending same r.is in
            let here : value (restrict (without_var x a.tracks) a.tracks letter) ≡ state = ap value (shorter letter ∙ sym e) ∙ r.leads in
            subst (λ set. Contains set state) (sym (single-of letter ∙ ap (λ n. n ∷ []) here)) (Contains-head state []),
      );
    }

  begins-from : (letter state : ℕ) → Reads letter state (first_state a) → Begins a (without_var x a.tracks) letter state
  begins-from letter state r = record { longer = r.longer; is = r.is; leads = r.leads }

  begins-to : (letter state : ℕ) → Begins a (without_var x a.tracks) letter state → Reads letter state (first_state a)
  begins-to letter state r = record { longer = r.longer; is = r.is; leads = r.leads }

  follows-from : (from letter state : ℕ) → Reads letter state (next_state a from) → Follows a (without_var x a.tracks) from letter state
  follows-from from letter state r = record { longer = r.longer; is = r.is; leads = r.leads }

  follows-to : (from letter state : ℕ) → Follows a (without_var x a.tracks) from letter state → Reads letter state (next_state a from)
  follows-to from letter state r = record { longer = r.longer; is = r.is; leads = r.leads }

  pub HasSetRows-wide : {shapes : List Shape} {sets : List (List ℕ)} {first : ℕ} {rows : List ℕ} → AreSingletons sets (length a.accept)
      → HasWideRows shapes a (without_var x a.tracks) first rows → length (without_var x a.tracks) ≡ length a.tracks
      → HasSetRows shapes sets a (without_var x a.tracks) first rows
  HasSetRows-wide {shapes} {sets} {first} singles wide same = record {
    valid = valid;
    first_row = IsSetRow-wide shapes sets first (first_state a) singles wide.first_row same (Begins a (without_var x a.tracks)) begins-from begins-to;
    state_rows = record {
      size = wide.state_rows.size;
      each =
          λ state node at. IsSetRow-wide shapes sets node (next_state a state) singles (wide.state_rows.each state node at) same
          (Follows a (without_var x a.tracks) state) (follows-from state) (follows-to state);
    };
  }

  pub HasSetRows-merged : {old shapes : List Shape} {before sets : List (List ℕ)} {first merged_first : ℕ} {rows merged : List ℕ} → AreSingletons before (length a.accept)
      → HasWideRows old a (without_var x a.tracks) first rows → Grows old shapes → SetsKept before sets
      → IsMerged shapes sets (length (without_var x a.tracks)) first merged_first → EachAnswers (IsMerged shapes sets (length (without_var x a.tracks))) rows merged
      → HasSetRows shapes sets a (without_var x a.tracks) merged_first merged
  HasSetRows-merged {old} {shapes} {before} {sets} {first} {merged_first} {rows} {merged} singles wide grows kept first_is each = record {
    valid = valid;
    first_row = IsSetRow-merged old shapes before sets first merged_first (first_state a) singles wide.first_row grows kept first_is (Begins a (without_var x a.tracks)) begins-from begins-to;
    state_rows = record {
      size = each.size ∙ wide.state_rows.size;
      each = λ state node at.
          let h = slice_get_within merged state node at in
          let size = each.size in
          let here = get_or_from_slice_get merged state node 0 at in
          let inside : state < length rows = omega (arith, h, size) in
          let row = wide.state_rows.each state (get_or rows state 0) (slice_get-get_or rows state 0 inside) in
          IsSetRow-merged old shapes before sets (get_or rows state 0) node (next_state a state) singles row grows kept
          (subst (IsMerged shapes sets (length (without_var x a.tracks)) (get_or rows state 0)) here (each.each state inside))
          (Follows a (without_var x a.tracks) state) (follows-from state) (follows-to state);
    };
  }

  pub wide-rows-sets : {shapes : List Shape} {sets : List (List ℕ)} {rows : List ℕ} → AreSingletons sets (length a.accept) → AreWideRows shapes a (without_var x a.tracks) rows
      → All (HasSets shapes sets) rows
  wide-rows-sets {shapes} {sets} {rows} singles wide =
      All-from_get_or (HasSets shapes sets) rows 0
      (λ i h. wide-sets singles (wide.each i (get_or rows i 0) (slice_get-get_or rows i 0 h)))
