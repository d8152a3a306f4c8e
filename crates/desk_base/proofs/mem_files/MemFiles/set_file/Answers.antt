use Rattle.std.proofs.Common.{string_bytes, ap, ◌∙◌}
use Rattle.std.specs.FinMap as map
use Rattle.desk_base.proofs.FilesOf.{file_put}
use Rattle.desk_base.proofs.mem_files.MemFiles.set_file.Goals as goal

pub returns-clause-ok : goal.returns-clause-ok
returns-clause-ok c =
    file_put c.self.inside.files c.insert.new.self c.args.name c.args.bytes c.in_ok-insert.ensures.updates
    ∙ ap (λ files. map.insert files (string_bytes c.args.name) c.args.bytes.items) c.self.view_is
