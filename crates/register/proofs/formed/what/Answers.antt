use Rattle.register.proofs.formed.what.Goals as goal

pub returns-in-Insert : goal.returns-in-Insert
returns-in-Insert c = rw c.in-Insert.is c.inserts.ensures

pub returns-in-Delete : goal.returns-in-Delete
returns-in-Delete c = rw c.in-Delete.is c.deletes.ensures

pub returns-in-Update : goal.returns-in-Update
returns-in-Update c = rw c.in-Update.is c.updates.ensures

pub returns-in-Uplevel : goal.returns-in-Uplevel
returns-in-Uplevel c = rw c.in-Uplevel.is c.uplevels.ensures

pub returns-in-Select : goal.returns-in-Select
returns-in-Select c = rw c.in-Select.is c.selects.ensures
