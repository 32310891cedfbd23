use Rattle.std.proofs.Common.{inl, inr, refl, arith}
use Rattle.ghg_run.proofs.Stored.{had_rows, keeps_rows_more, stays_in_use}
use Rattle.ghg_run.proofs.opening.open_office.Goals as goal

-- ---- the store is not attached

pub returns-in-Err-Failed-clause-opened : goal.returns-in-Err-Failed-clause-opened
returns-in-Err-Failed-clause-opened g c = rw (c.in-Some.is, ← c.as_str.ensures.text) (record {
  rows = (g.K.Keeper.shelf c.args.keeper.now).rows;
  had = record { told = c.attach.ensures.rows.told; same = λ _ _. refl };
  why = inr (record { kind = inl refl; nothing = refl; used = inl c.in-Err-Failed.ensures.err });
  kept = c.attach.ensures.rows;
  spent = omega arith;
})

pub returns-in-Err-Memory-clause-opened : goal.returns-in-Err-Memory-clause-opened
returns-in-Err-Memory-clause-opened g c = rw (c.in-Some.is, ← c.as_str.ensures.text) (record {
  rows = (g.K.Keeper.shelf c.args.keeper.now).rows;
  had = record { told = c.attach.ensures.rows.told; same = λ _ _. refl };
  why = inr (record { kind = inr refl; nothing = refl; used = inl c.in-Err-Memory.ensures.err });
  kept = c.attach.ensures.rows;
  spent = omega arith;
})

-- ---- its rows are replayed

pub returns-in-Ok-reopen-clause-opened : goal.returns-in-Ok-reopen-clause-opened
returns-in-Ok-reopen-clause-opened g c =
    let replays = c.in-Ok-reopen.ensures.replays in
    let had = had_rows _ _ _ replays.0 c.attach.ensures.rows c.in-Ok.ensures.told c.reopen.ensures.keeps.rows replays.1 in
    rw c.in-Some.is ((replays.0, had, replays.2, replays.3), refl)

pub returns-in-Ok-reopen-clause-kept : goal.returns-in-Ok-reopen-clause-kept
returns-in-Ok-reopen-clause-kept g c = rw (c.in-Some.is, ← c.as_str.ensures.text) (
  stays_in_use c.as_str.result.now (g.K.Keeper.shelf c.attach.new.self) (g.K.Keeper.shelf c.reopen.new.keeper) c.reopen.ensures.keeps.name c.in-Ok.ensures.ok,
  c.in-Ok-reopen.ensures.accepted,
)

pub returns-in-Err-Kept-clause-opened : goal.returns-in-Err-Kept-clause-opened
returns-in-Err-Kept-clause-opened g c =
    let replays = rw c.in-Err-Kept.field-0-is at c.in-Err-Kept.ensures.replays in
    let keeps = keeps_rows_more _ _ _ c.attach.ensures.rows c.reopen.ensures.keeps.rows in
    rw (c.in-Some.is, ← c.as_str.ensures.text) (record {
      rows = replays.0;
      had = had_rows _ _ _ replays.0 c.attach.ensures.rows c.in-Ok.ensures.told c.reopen.ensures.keeps.rows replays.1;
      why = inl (record {
        seq = c.in-Err-Kept.seq;
        reply = c.in-Err-Kept.reply;
        refused = replays.2;
        told = c.refuse_row.ensures.reported;
        used = stays_in_use c.as_str.result.now (g.K.Keeper.shelf c.attach.new.self) (g.K.Keeper.shelf c.reopen.new.keeper) c.reopen.ensures.keeps.name c.in-Ok.ensures.ok;
      });
      kept = keeps;
      spent = replays.3;
    })

pub returns-in-Err-KeeperFault-clause-opened : goal.returns-in-Err-KeeperFault-clause-opened
returns-in-Err-KeeperFault-clause-opened g c =
    let replays = c.in-Err-KeeperFault.ensures.replays in
    let used = stays_in_use c.as_str.result.now (g.K.Keeper.shelf c.attach.new.self) (g.K.Keeper.shelf c.reopen.new.keeper) c.reopen.ensures.keeps.name c.in-Ok.ensures.ok in
    rw (c.in-Some.is, ← c.as_str.ensures.text) (record {
      rows = replays.0;
      had = had_rows _ _ _ replays.0 c.attach.ensures.rows c.in-Ok.ensures.told c.reopen.ensures.keeps.rows replays.1;
      why = inr (record { kind = inl refl; nothing = refl; used = inr used });
      kept = keeps_rows_more _ _ _ c.attach.ensures.rows c.reopen.ensures.keeps.rows;
      spent = replays.3;
    })

pub returns-in-Err-Memory-reopen-clause-opened : goal.returns-in-Err-Memory-reopen-clause-opened
returns-in-Err-Memory-reopen-clause-opened g c =
    let replays = c.in-Err-Memory-reopen.ensures.replays in
    let used = stays_in_use c.as_str.result.now (g.K.Keeper.shelf c.attach.new.self) (g.K.Keeper.shelf c.reopen.new.keeper) c.reopen.ensures.keeps.name c.in-Ok.ensures.ok in
    rw (c.in-Some.is, ← c.as_str.ensures.text) (record {
      rows = replays.0;
      had = had_rows _ _ _ replays.0 c.attach.ensures.rows c.in-Ok.ensures.told c.reopen.ensures.keeps.rows replays.1;
      why = inr (record { kind = inr refl; nothing = refl; used = inr used });
      kept = keeps_rows_more _ _ _ c.attach.ensures.rows c.reopen.ensures.keeps.rows;
      spent = replays.3;
    })
