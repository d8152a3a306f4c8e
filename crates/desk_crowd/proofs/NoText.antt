-- How `crowd` ends where there is no text.
use Rattle.std.proofs.Common.{◌≡◌, ℕ, List, [], Option, Err, refl}
use Rattle.desk_base.specs.Faults.{HasRisen}
use Rattle.desk_base.specs.Files.{Files}
use Rattle.desk_text.specs.TextRead.{TextReadOf}
use Rattle.desk_text.specs.declared.text.TextEnd.{TextEnd}
use Rattle.desk_text.specs.declared.text.TextEnd.TheVariants.{Fault, Refused}
use Rattle.desk_report.specs.Outcome.{Writes, of_streams}
use Rattle.desk_report.proofs.TextEnds.{fault_ends, refused_ends}
use Rattle.desk_crowd.specs.Crowd.{CrowdEnds, CrowdReports, IsBehindCrowd, crowd_texts, end_line, status_of}

module _ (n budget : ℕ) (files : Files) (pending : List ℕ) (left after written later : Option (List ℕ)) (reads reads_later writes writes_later : ℕ) where
  pub no_text_ends : (end : TextEnd) → TextReadOf crowd_texts (Err end) pending left after → (end ≡ Fault → HasRisen reads reads_later)
      → Writes [] (end_line end) written later (HasRisen writes writes_later)
      → CrowdEnds n budget files (status_of end) pending (of_streams files left written reads writes) (of_streams files after later reads_later writes_later)
  no_text_ends Fault t failed wrote =
      fault_ends crowd_texts (λ problem rest. CrowdReports n budget problem files) files IsBehindCrowd pending left after written later reads reads_later writes writes_later t (failed refl) wrote
  no_text_ends (Refused number why) t failed wrote =
      refused_ends crowd_texts (λ problem rest. CrowdReports n budget problem files) files IsBehindCrowd pending left after written later reads reads_later writes writes_later number why t wrote
