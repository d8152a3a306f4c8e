use Rattle.auto_project.proofs.placing.SetNumbering.+led.Given as goal

abbrev pub decreases-led : goal.decreases-led
decreases-led l = l.node
