-- Files by name, and the entries of a map of the library that holds them.
use Rattle.std.proofs.Common.{◌≡◌, ℕ, Bool, true, false, cond, List, [], ◌∷◌, Vec, String, string_bytes, Option, Some, refl, sym, ◌∙◌, ap}
use Rattle.std.specs.declared.alloc.Global.{Global}
use Rattle.std.specs.Option.{option_map}
use Rattle.std.specs.Ordering.{nat_cmp, eq_by_cmp}
use Rattle.std.specs.Cmp.{eq_by_cmp_equiv}
use Rattle.std.specs.Cmp.Lexicographic.{slice_cmp, nat_list_cmp_total}
use Rattle.std.specs.String.{string_cmp}
use Rattle.std.specs.Map.{lookup}
use Rattle.std.specs.BTreeMap.{BTreeMap, Updates, is_at, get_by_text}
use Rattle.std.specs.FinMap as finite
use Rattle.std.proofs.lemmas.Map.Text.{is_eq-slice_cmp, btree_map_updates_text}
use Rattle.desk_base.specs.Files.{files_of}

abbrev pub Entries : Type 0
Entries = BTreeMap (String Global) (Vec ℕ Global)

abbrev pub bytes_of : Option (Vec ℕ Global) → Option (List ℕ)
bytes_of = option_map (λ bytes. bytes.items)

map_choice : (b : Bool) (bytes : Vec ℕ Global) (other : Option (Vec ℕ Global)) → cond b (Some bytes.items) (bytes_of other) ≡ bytes_of (cond b (Some bytes) other)
map_choice true bytes other = refl
map_choice false bytes other = refl

found_in : (entries : List (String Global × Vec ℕ Global)) (name : List ℕ)
    → finite.get (files_of entries) name ≡ bytes_of (lookup (is_at (λ k. slice_cmp nat_cmp name (string_bytes k))) entries)
found_in [] name = finite.get-empty (slice_cmp nat_cmp) name
found_in (e ∷ es) name =
    finite.get-insert nat_list_cmp_total (files_of es) (string_bytes e.0) e.1.items name
    ∙ ap (cond (eq_by_cmp (slice_cmp nat_cmp) name (string_bytes e.0)) (Some e.1.items)) (found_in es name)
    ∙ map_choice (eq_by_cmp (slice_cmp nat_cmp) name (string_bytes e.0)) e.1 _

-- a file is found by its name
pub file_found : (entries : Entries) (name : List ℕ) → finite.get (files_of entries.entries) name ≡ bytes_of (get_by_text entries name)
file_found entries name = found_in entries.entries name

-- a file that is put under a name is put under it by the map
pub file_put : (old new : Entries) (name : String Global) (bytes : Vec ℕ Global) → Updates string_cmp old new name (Some bytes) →
    files_of new.entries ≡ finite.insert (files_of old.entries) (string_bytes name) bytes.items
file_put old new name bytes put = finite.same_map nat_list_cmp_total (finite.slice_cmp-IsAntisymmetric finite.nat_cmp-IsAntisymmetric) _ _ same where
  same : (q : List ℕ) → finite.get (files_of new.entries) q ≡ finite.get (finite.insert (files_of old.entries) (string_bytes name) bytes.items) q
  same q =
      file_found new q
      ∙ ap bytes_of (btree_map_updates_text (string_bytes name) old new (Some bytes) put q)
      ∙ sym (map_choice _ bytes (get_by_text old q))
      ∙ ap (λ b. cond b (Some bytes.items) (bytes_of (get_by_text old q))) (sym (is_eq-slice_cmp (string_bytes name) q) ∙ (eq_by_cmp_equiv nat_list_cmp_total).symm (string_bytes name) q)
      ∙ ap (cond (eq_by_cmp (slice_cmp nat_cmp) q (string_bytes name)) (Some bytes.items)) (sym (file_found old q))
      ∙ sym (finite.get-insert nat_list_cmp_total (files_of old.entries) (string_bytes name) bytes.items q)
