use Rattle.pigale_shell.proofs.map_jobs.answer_map.Goals as goal

pub returns-in-Count-clause-block : goal.returns-in-Count-clause-block
returns-in-Count-clause-block c = rw c.in-Count.is c.answer_by.ensures.block

pub returns-in-Count-clause-served : goal.returns-in-Count-clause-served
returns-in-Count-clause-served c = rw c.in-Count.is c.answer_by.ensures.served

pub returns-in-Shift-clause-block : goal.returns-in-Shift-clause-block
returns-in-Shift-clause-block c = rw c.in-Shift.is c.answer_by-in-Shift.ensures.block

pub returns-in-Shift-clause-served : goal.returns-in-Shift-clause-served
returns-in-Shift-clause-served c = rw c.in-Shift.is c.answer_by-in-Shift.ensures.served

pub returns-in-Schnyder-clause-block : goal.returns-in-Schnyder-clause-block
returns-in-Schnyder-clause-block c = rw c.in-Schnyder.is c.answer_by-in-Schnyder.ensures.block

pub returns-in-Schnyder-clause-served : goal.returns-in-Schnyder-clause-served
returns-in-Schnyder-clause-served c = rw c.in-Schnyder.is c.answer_by-in-Schnyder.ensures.served

pub returns-in-Bars-clause-block : goal.returns-in-Bars-clause-block
returns-in-Bars-clause-block c = rw c.in-Bars.is c.answer_by-in-Bars.ensures.block

pub returns-in-Bars-clause-served : goal.returns-in-Bars-clause-served
returns-in-Bars-clause-served c = rw c.in-Bars.is c.answer_by-in-Bars.ensures.served

pub returns-in-Convex-clause-block : goal.returns-in-Convex-clause-block
returns-in-Convex-clause-block c = rw c.in-Convex.is c.answer_by-in-Convex.ensures.block

pub returns-in-Convex-clause-served : goal.returns-in-Convex-clause-served
returns-in-Convex-clause-served c = rw c.in-Convex.is c.answer_by-in-Convex.ensures.served

pub returns-in-Rect-clause-block : goal.returns-in-Rect-clause-block
returns-in-Rect-clause-block c = rw c.in-Rect.is c.answer_by-in-Rect.ensures.block

pub returns-in-Rect-clause-served : goal.returns-in-Rect-clause-served
returns-in-Rect-clause-served c = rw c.in-Rect.is c.answer_by-in-Rect.ensures.served
