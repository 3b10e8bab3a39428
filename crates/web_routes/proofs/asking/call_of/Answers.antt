use Rattle.web_routes.proofs.asking.call_of.Goals as goal

pub returns-in-Update-clause-user : goal.returns-in-Update-clause-user
returns-in-Update-clause-user c = c.update_call.ensures.user c.args.meta.now c.args.user

pub returns-in-Values-clause-user : goal.returns-in-Values-clause-user
returns-in-Values-clause-user c = c.values_call.ensures.user c.args.meta.now

pub returns-in-Complete-clause-user : goal.returns-in-Complete-clause-user
returns-in-Complete-clause-user c = c.completions_call.ensures.user c.args.meta.now

pub returns-in-Tracker-clause-user : goal.returns-in-Tracker-clause-user
returns-in-Tracker-clause-user c = c.tracker_call.ensures.user c.args.meta.now
