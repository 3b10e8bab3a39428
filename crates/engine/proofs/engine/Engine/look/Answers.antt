use Rattle.engine.proofs.engine.Engine.look.Goals as goal

pub returns-clause-step : goal.returns-clause-step
returns-clause-step g c = rw (← c.self.view_is) (c.look.ensures.step c.self.inside.log.changes)

pub returns-clause-tables : goal.returns-clause-tables
returns-clause-tables g c = rw (← c.self.view_is) (c.look.ensures.tables _ _ c.self.invariant.shows.stands.all)

pub returns-clause-served : goal.returns-clause-served
returns-clause-served g c = rw (← c.self.view_is) c.look.ensures.served

pub returns-clause-stands : goal.returns-clause-stands
returns-clause-stands g c = rw (← c.self.view_is) c.self.invariant.shows.stands

pub returns-clause-published : goal.returns-clause-published
returns-clause-published g c = rw (← c.self.view_is) c.look.ensures.published
