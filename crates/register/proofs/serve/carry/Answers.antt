use Rattle.register.proofs.Outcomes.{insert-carried, delete-carried, update-carried, uplevel-carried, select-carried}
use Rattle.register.proofs.Served.{relation-known, insert-shape, delete-shape, update-shape, uplevel-shape, select-shape, standing-of}
use Rattle.register.proofs.serve.carry.Goals as goal

pub about-table-requires : goal.about-table-requires
about-table-requires c = (c.requires.judged.sound-is, relation-known _ _ c.requires.well_formed)

pub insert-requires : goal.insert-requires
insert-requires c = rw (c.about-table.ensures.described, c.about-table.ensures.of_relation) (record { standing = standing-of _ _ c.requires.well_formed _ _ c.requires.judged; formed_list = insert-shape _ _ c.requires.well_formed c.in-Insert.is })

pub returns-in-Insert : goal.returns-in-Insert
returns-in-Insert c = let k = rw (c.about-table.ensures.described, c.about-table.ensures.of_relation) at c.insert.ensures in insert-carried _ _ _ _ c.in-Insert.is k

pub delete-requires : goal.delete-requires
delete-requires c = rw (c.about-table.ensures.described, c.about-table.ensures.of_relation) (record { standing = standing-of _ _ c.requires.well_formed _ _ c.requires.judged; formed_conditions = delete-shape _ _ c.requires.well_formed c.in-Delete.is })

pub returns-in-Delete : goal.returns-in-Delete
returns-in-Delete c = let k = rw (c.about-table.ensures.described, c.about-table.ensures.of_relation) at c.delete.ensures in delete-carried _ _ _ _ c.in-Delete.is k

pub update-requires : goal.update-requires
update-requires c = rw (c.about-table.ensures.described, c.about-table.ensures.of_relation) (record { standing = standing-of _ _ c.requires.well_formed _ _ c.requires.judged; formed_list = update-shape _ _ c.requires.well_formed c.in-Update.is })

pub returns-in-Update : goal.returns-in-Update
returns-in-Update c = let k = rw (c.about-table.ensures.described, c.about-table.ensures.of_relation) at c.update.ensures in update-carried _ _ _ _ c.in-Update.is k

pub uplevel-requires : goal.uplevel-requires
uplevel-requires c = rw (c.about-table.ensures.described, c.about-table.ensures.of_relation) (record { standing = standing-of _ _ c.requires.well_formed _ _ c.requires.judged; formed_list = uplevel-shape _ _ c.requires.well_formed _ _ c.in-Uplevel.is })

pub returns-in-Uplevel : goal.returns-in-Uplevel
returns-in-Uplevel c = let k = rw (c.about-table.ensures.described, c.about-table.ensures.of_relation) at c.uplevel.ensures in uplevel-carried _ _ _ _ _ _ c.in-Uplevel.is k

pub select-requires : goal.select-requires
select-requires c = rw (c.about-table.ensures.described, c.about-table.ensures.of_relation) (record { standing = standing-of _ _ c.requires.well_formed _ _ c.requires.judged; formed_list = select-shape _ _ c.requires.well_formed c.in-Select.is })

pub returns-in-Select : goal.returns-in-Select
returns-in-Select c = let k = rw (c.about-table.ensures.described, c.about-table.ensures.of_relation) at c.select.ensures in select-carried _ _ _ _ c.in-Select.is k
