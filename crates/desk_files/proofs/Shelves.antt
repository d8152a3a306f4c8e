-- What a shelf has told of a file, and files that it may have where it tells nothing. Crates above cite these lemmas.
use Rattle.std.proofs.Common.{◌≡◌, ◌≢◌, ℕ, Bool, true, false, zero, suc, ◌+◌, ◌<◌, cond, List, [], ◌∷◌, length, Option, Some, None, IfSome, refl, sym, ◌∙◌, ap, arith}
use Rattle.std.specs.FinMap as finite
use Rattle.std.specs.Prelude.{IsSomeAnd, unwrap_or}
use Rattle.std.specs.Ordering.{nat_cmp, eq_by_cmp}
use Rattle.std.specs.Cmp.{Equal-is, eq_by_cmp_equiv}
use Rattle.std.specs.Cmp.Lexicographic.{slice_cmp, nat_list_cmp_total}
use Rattle.desk_base.specs.Files.{Files, Go, no_files}
use Rattle.desk_files.specs.FileClaim.{OnFiles}

-- the files of a store, or none where it does not tell them
abbrev pub files_of : Option Files → Files
files_of told = unwrap_or told no_files

pub known_files : (told : Option Files) → IfSome told (λ files. files ≡ files_of told)
known_files None = tt
known_files (Some files) = refl

-- the file that was put under a name is there
pub has_put : (files : Files) (name bytes : List ℕ) → finite.get (finite.insert files name bytes) name ≡ Some bytes
has_put files name bytes =
    finite.get-insert nat_list_cmp_total files name bytes name
    ∙ ap (λ b. cond b (Some bytes) (finite.get files name)) ((eq_by_cmp_equiv nat_list_cmp_total).refl name)

-- and each other one is as it was
pub put_others : (files : Files) (name bytes other : List ℕ) → other ≢ name → finite.get (finite.insert files name bytes) other ≡ finite.get files other
put_others files name bytes other not =
    finite.get-insert nat_list_cmp_total files name bytes other ∙ kept (eq_by_cmp (slice_cmp nat_cmp) other name) refl
  where
    kept : (b : Bool) → eq_by_cmp (slice_cmp nat_cmp) other name ≡ b → cond b (Some bytes) (finite.get files other) ≡ finite.get files other
    kept true is = absurd (not (finite.slice_cmp-IsAntisymmetric finite.nat_cmp-IsAntisymmetric other name ((Equal-is (slice_cmp nat_cmp other name)).0 is)))
    kept false is = refl

-- where a shelf tells nothing of its files, they may be any
pub found_file : (told : Option Files) (name bytes : List ℕ) → IfSome told (λ files. Some bytes ≡ finite.get files name) → OnFiles told (λ files. finite.get files name ≡ Some bytes)
found_file None name bytes h = (finite.insert no_files name bytes, tt, has_put no_files name bytes)
found_file (Some files) name bytes h = (files, refl, sym h)

pub no_file : (told : Option Files) (name : List ℕ) → IfSome told (λ files. None ≡ finite.get files name) → OnFiles told (λ files. finite.get files name ≡ None)
no_file None name h = (no_files, tt, finite.get-from_entries nat_list_cmp_total [] name)
no_file (Some files) name h = (files, refl, sym h)

-- a list of so many zeros
zeros : ℕ → List ℕ
zeros zero = []
zeros (suc n) = 0 ∷ zeros n

length-zeros : (n : ℕ) → length (zeros n) ≡ n
unfolding zeros
length-zeros zero = refl
length-zeros (suc n) = ap suc (length-zeros n)

long_in : (limit : ℕ) (files : Files) (name : List ℕ) (found : Option (List ℕ)) → finite.get files name ≡ found
    → IsSomeAnd found (λ bytes. limit < length bytes) → (bytes : List ℕ) × (finite.get files name ≡ Some bytes) × (limit < length bytes)
long_in limit files name (Some bytes) is' long = (bytes, is', long)
long_in limit files name None is' long = absurd long

pub long_file : (limit : ℕ) (told : Option Files) (name : List ℕ) → IfSome told (λ files. IsSomeAnd (finite.get files name) (λ bytes. limit < length bytes))
    → OnFiles told (λ files. (bytes : List ℕ) × (finite.get files name ≡ Some bytes) × (limit < length bytes))
long_file limit None name h =
    let bytes = zeros (limit + 1) in
    (finite.insert no_files name bytes, tt, (bytes, has_put no_files name bytes, omega (arith, length-zeros (limit + 1))))
long_file limit (Some files) name h = (files, refl, long_in limit files name (finite.get files name) refl h)

pub some_files : (told : Option Files) → OnFiles told (λ files. Unit {0})
some_files told = (files_of told, known_files told, tt)

-- the files of a shelf that is not called stay
pub same_kept : (told : Option Files) → Go told told (λ before after. after ≡ before)
same_kept None = tt
same_kept (Some x) = refl
