use Rattle.script_text.proofs.reporting.events.put_event.Goals as goal

pub returns-in-Build : goal.returns-in-Build
returns-in-Build c = rw (c.in-Build.is) c.put_line-in-Build.ensures

pub returns-in-Online : goal.returns-in-Online
returns-in-Online c = rw (c.in-Online.is) c.put_line-in-Online.ensures
