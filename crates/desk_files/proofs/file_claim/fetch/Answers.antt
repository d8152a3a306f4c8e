use Rattle.std.proofs.Common.{rules}
use Rattle.strategy_writer.specs.Written.{most_bytes}
use Rattle.desk_files.proofs.Shelves.{found_file, long_file, no_file, some_files}
use Rattle.desk_files.proofs.file_claim.fetch.Goals as goal

pub returns-in-Ok-Some-clause-fetched : goal.returns-in-Ok-Some-clause-fetched
returns-in-Ok-Some-clause-fetched g c =
    let f = found_file (g.H.Shelf.files c.args.shelf.now) c.args.name.now c.in-Ok-Some.bytes.items (rw c.in-Ok-Some.field-0-is at c.in-Ok-Some.ensures.found) in
    (f.0, f.1, (f.2, rw c.in-Ok-Some.field-0-is at c.in-Ok-Some.ensures.short))

pub returns-in-Ok-None-clause-fetched : goal.returns-in-Ok-None-clause-fetched
returns-in-Ok-None-clause-fetched g c =
    no_file (g.H.Shelf.files c.args.shelf.now) c.args.name.now (rw c.in-Ok-None.field-0-is at c.in-Ok-None.ensures.found)

pub returns-in-Err-Failed-clause-fetched : goal.returns-in-Err-Failed-clause-fetched
returns-in-Err-Failed-clause-fetched g c = some_files (g.H.Shelf.files c.args.shelf.now)

pub returns-in-Err-TooLong-clause-fetched : goal.returns-in-Err-TooLong-clause-fetched
returns-in-Err-TooLong-clause-fetched g c =
    long_file most_bytes (g.H.Shelf.files c.args.shelf.now) c.args.name.now (c.in-Err-TooLong.ensures.too_long (search rules))

pub returns-in-Err-Memory-clause-fetched : goal.returns-in-Err-Memory-clause-fetched
returns-in-Err-Memory-clause-fetched g c = some_files (g.H.Shelf.files c.args.shelf.now)
