-- The state of an in-memory source, sink and store.
use Rattle.std.specs.Prelude.{◌≡◌, ℕ, ◌-◌, ◌<◌, List, [], ◌++◌, length, drop, min, refl}
use Rattle.std.specs.Coded.{Coded, code_by, coded×, coded_ℕ, coded_list}
use Rattle.std.specs.FinMap as finite
use Rattle.desk_base.specs.Calls.{Calls, IsListed, no_calls, one_more, one_more_failed}
use Rattle.desk_base.specs.Files.{Files, HasFileOver, files_code}

-- a source: the bytes still to come, the most that one call moves, and its calls
pub record Input : Type 0 where
  pub left : List ℕ
  pub most : ℕ
  pub calls : Calls

-- a sink: the bytes written, the most that one call writes, its capacity, and its calls
pub record Output : Type 0 where
  pub written : List ℕ
  pub most : ℕ
  pub room : ℕ
  pub calls : Calls

-- a store: its files, and its calls
pub record Store : Type 0 where
  pub files : Files
  pub calls : Calls

-- the number of bytes that a call moves to a buffer of this size, if it does not fail
abbrev pub take_count : Input → (size : ℕ) → ℕ
take_count source size = min (min (length source.left) size) source.most

-- the source after a call that moved `count` bytes
abbrev pub after_take : Input → (count : ℕ) → Input
after_take source count =
    record { left = drop count source.left; most = source.most; calls = one_more source.calls }

-- the source after a call that failed
abbrev pub after_failed_take : Input → Input
after_failed_take source = record source { calls = one_more_failed source.calls }

-- a sink to which nothing has been written
abbrev pub empty_output : (most room : ℕ) → (fail : List ℕ) → Output
empty_output most room fail = record { written = []; most = most; room = room; calls = no_calls fail }

-- the sink has no room left, and the piece is not empty
abbrev pub LacksRoom : Output → (piece : List ℕ) → Type 0
LacksRoom sink piece = (length sink.written ≡ sink.room) × (0 < length piece)

-- the number of bytes of the piece that a call writes, if it does not fail
abbrev pub put_count : Output → (piece : List ℕ) → ℕ
put_count sink piece = min (min (length piece) sink.most) (sink.room - length sink.written)

-- the sink after a call that wrote these bytes
abbrev pub after_put : Output → (bytes : List ℕ) → Output
after_put sink bytes =
    record { written = sink.written ++ bytes; most = sink.most; room = sink.room; calls = one_more sink.calls }

-- the sink after a call that failed
abbrev pub after_failed_put : Output → Output
after_failed_put sink = record sink { calls = one_more_failed sink.calls }

-- the store in which the file of this name has these bytes
abbrev pub with_file : Store → (name bytes : List ℕ) → Store
with_file store name bytes = record store { files = finite.insert store.files name bytes }

-- the next call of the store does not fail, and there is a file of this name with more than `limit` bytes
abbrev pub FindsFileOver : Store → (name : List ℕ) → (limit : ℕ) → Type 0
FindsFileOver store name limit = ¬ IsListed store.calls × HasFileOver store.files name limit

-- the store after a call that changed no file
abbrev pub after_call : Store → Store
after_call store = record store { calls = one_more store.calls }

-- the store after a call that failed
abbrev pub after_failed_call : Store → Store
after_failed_call store = record store { calls = one_more_failed store.calls }

-- a store is coded as the tuple of its parts
abbrev pub store_code : Coded Store
store_code =
    code_by (Files × (ℕ × (List ℕ × ℕ)))
    (coded× files_code
    (coded× coded_ℕ (coded× (coded_list coded_ℕ) coded_ℕ)))
    (λ s. (s.files, (s.calls.made, (s.calls.fail, s.calls.faults))))
    (λ p. record { files = p.0; calls = record { made = p.1.0; fail = p.1.1.0; faults = p.1.1.1 } }) (λ _. refl)
