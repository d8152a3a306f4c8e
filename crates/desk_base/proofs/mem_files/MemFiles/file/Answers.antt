use Rattle.std.proofs.Common.{Some, sym, ap, ◌∙◌}
use Rattle.std.specs.FinMap as map
use Rattle.desk_base.proofs.FilesOf.{bytes_of, file_found}
use Rattle.desk_base.proofs.mem_files.MemFiles.file.Goals as goal

pub returns-in-Some : goal.returns-in-Some
returns-in-Some c =
    ap Some c.as_slice.ensures.value
    ∙ ap bytes_of c.in-Some.ensures.value
    ∙ sym (file_found c.self.inside.files c.args.name.now)
    ∙ ap (λ files. map.get files c.args.name.now) c.self.view_is

pub returns-in-None : goal.returns-in-None
returns-in-None c =
    ap bytes_of c.in-None.ensures.value
    ∙ sym (file_found c.self.inside.files c.args.name.now)
    ∙ ap (λ files. map.get files c.args.name.now) c.self.view_is
