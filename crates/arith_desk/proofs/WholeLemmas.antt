-- What a whole line is read as.
use Rattle.std.proofs.Common.{◌≡◌, inl, inr, ℕ, zero, suc, ◌+◌, ◌-◌, ◌≤◌, List, [], ◌∷◌, ◌++◌, length, ℤ, Bor, sym, ap, ◌∙◌, subst, length-append, arith}
use Rattle.std.proofs.lemmas.List.{length-map}
use Rattle.track_word.specs.declared.tracks.Var.{Var}
use Rattle.lin_formula.specs.Tree.{Tree}
use Rattle.arith_desk.specs.Line.{AddsFields, AreFields, parted, texts}
use Rattle.arith_desk.specs.Typed.{spelled}
use Rattle.arith_desk.specs.Question.{IsQuestion}
use Rattle.arith_desk.specs.Reading.{IsFirstRefused, IsFormulaLine, IsReadWhole}
use Rattle.arith_desk.specs.Stops.{Fails, Stops, StopsComparison, StopsTerms, StopsWhole, at_word, behind_not, in_first, in_second, at_letter, in_body, in_comparison}
use Rattle.arith_desk.proofs.QuestionLemmas.{few_fields, question_typed}

pub all_fields : {line : List ℕ} {old new : List (List ℕ)} → old ≡ [] → AddsFields line old new → AreFields line new
all_fields {line} none adds = subst (AreFields line) (sym (adds.after ∙ ap (λ l. l ++ adds.added) none)) adds.are_fields

pub whole_question : {line : List ℕ} {fields : List (List ℕ)} {f : Tree} → length line ≤ 200 → AreFields line fields → IsReadWhole fields f → IsQuestion f
whole_question {line} short are r = subst IsQuestion (sym r.means) (question_typed r.typed short (subst (AreFields line) r.fields_are are) r.proper)

pub whole_line : {line : List ℕ} {fields : List (List ℕ)} {f : Tree} → AreFields line fields → IsReadWhole fields f → IsFormulaLine line f
whole_line {line} are r = record { typed = r.typed; line_is = subst (AreFields line) r.fields_are are; proper = r.proper; means = r.means }

-- at most 201 fields
pub short_line : {line : List ℕ} {fields : List (List ℕ)} → length line ≤ 200 → AreFields line fields → length fields ≤ 201
short_line {line} {fields} short are =
    let count = few_fields fields in
    let size : length line ≡ length (parted fields) = ap length are.is in
    omega arith

fails_within : (Is : List ℕ → Type 0) (fields : List (List ℕ)) (left : ℕ) → Fails Is fields left → left ≤ length fields
fails_within Is [] left h = omega (arith, h)
fails_within Is (field ∷ rest) left h = omega (arith, h.1)

one_more : (fields rest : List (List ℕ)) (field : List ℕ) (left : ℕ) → fields ≡ field ∷ rest → left ≤ length rest → left ≤ length fields
one_more fields rest field left is within = let size : length fields ≡ suc (length rest) = ap length is in omega arith

behind_more : (front rest : List (List ℕ)) (left : ℕ) → left ≤ length rest → left ≤ length (front ++ rest)
behind_more front rest left within = let size = length-append front rest in omega arith

terms_within : (scope : List Var) (terms : List (ℤ × Var)) (due : ℕ) (fields : List (List ℕ)) (left : ℕ) → StopsTerms scope terms due fields left → left ≤ length fields
terms_within scope terms zero fields left h = fails_within _ fields left h
terms_within scope terms (suc due) fields left (inl h) = fails_within _ fields left h
terms_within scope terms (suc due) fields left (inr (inl (a, rest, factor, is, h))) = one_more fields rest _ left is (fails_within _ rest left h)
terms_within scope terms (suc due) fields left (inr (inr (a, x, rest, factor, known, unused, is, h))) =
    let within = terms_within scope (terms ++ (a, x) ∷ []) due rest left h in
    let size : length fields ≡ suc (suc (length rest)) = ap length is in
    omega arith

comparison_within : (scope : List Var) (fields : List (List ℕ)) (left : ℕ) → StopsComparison scope fields left → left ≤ length fields
comparison_within scope fields left (inl h) = fails_within _ fields left h
comparison_within scope fields left (inr (due, rest, some, few, is, h)) = one_more fields rest _ left is (terms_within scope [] due rest left h)

pub stops_within : (scope : List Var) (fields : List (List ℕ)) (left : ℕ) → Stops scope fields left → left ≤ length fields
stops_within scope fields left (at_word _ _ _ h) = fails_within _ fields left h
stops_within scope fields left (behind_not _ _ rest _ is h) = one_more fields rest _ left is (stops_within scope rest left h)
stops_within scope fields left (in_first _ connective _ rest _ is h) = one_more fields rest _ left is (stops_within scope rest left h)
stops_within scope fields left (in_second _ connective first _ rest _ proper is h) =
    one_more fields (spelled first ++ rest) _ left is (behind_more (spelled first) rest left (stops_within scope rest left h))
stops_within scope fields left (at_letter _ quantifier _ rest _ is h) = one_more fields rest _ left is (fails_within _ rest left h)
stops_within scope fields left (in_body _ quantifier x _ rest _ low fresh is h) =
    let within = stops_within (x ∷ scope) rest left h in
    let size : length fields ≡ suc (suc (length rest)) = ap length is in
    omega arith
stops_within scope fields left (in_comparison _ rel _ rest _ is h) = one_more fields rest _ left is (comparison_within scope rest left h)

pub whole_within : (fields : List (List ℕ)) (left : ℕ) → StopsWhole fields left → left ≤ length fields
whole_within fields left (inl h) = stops_within [] fields left h
whole_within fields left (inr (f, rest, proper, is, some, count)) =
    let size : length fields ≡ length (spelled f ++ rest) = ap length is in
    let more = length-append (spelled f) rest in
    omega arith

pub first_refused : {line : List ℕ} {fields : List (List ℕ)} (left : ℕ) → AreFields line fields → StopsWhole fields left → IsFirstRefused line (length fields - left + 1)
first_refused {fields} left are stops =
    let within = whole_within fields left stops in
    record { fields = fields; line_is = are; left = left; stops = stops; counted = omega arith }

pub count_texts : (fields : List (Bor (List ℕ))) → length (texts fields) ≡ length fields
count_texts fields = length-map fields (λ (field : Bor (List ℕ)). field.now)
