use Rattle.std.proofs.Common.{rules}
use Rattle.answer_journal.proofs.OnlyRead.{unread, read_more}
use Rattle.answer_journal.proofs.head.head_of.Goals as goal

pub returns-in_err-sync-clause-only_read : goal.returns-in_err-sync-clause-only_read
returns-in_err-sync-clause-only_read g c =
    let D = g.D.Disk in
    let none = unread D c.args.disk.now (g.met.D.Disk.only_now c.args.disk.now) in
    read_more D c.args.disk.now c.args.disk.now c.sync.new.self none c.sync.ensures.same c.sync.ensures.crash c.sync.ensures.time c.sync.ensures.cause.later

pub returns-in_err-size-clause-only_read : goal.returns-in_err-size-clause-only_read
returns-in_err-size-clause-only_read g c =
    let D = g.D.Disk in
    let none = unread D c.args.disk.now (g.met.D.Disk.only_now c.args.disk.now) in
    let synced = read_more D c.args.disk.now c.args.disk.now c.sync.new.self none c.sync.ensures.same c.sync.ensures.crash c.sync.ensures.time c.sync.ensures.cause.later in
    read_more D c.args.disk.now c.sync.new.self c.len.new.self synced c.len.ensures.same c.len.ensures.crash c.len.ensures.time c.len.ensures.cause.later

pub returns-in_err-read-clause-only_read : goal.returns-in_err-read-clause-only_read
returns-in_err-read-clause-only_read g c =
    let D = g.D.Disk in
    let none = unread D c.args.disk.now (g.met.D.Disk.only_now c.args.disk.now) in
    let synced = read_more D c.args.disk.now c.args.disk.now c.sync.new.self none c.sync.ensures.same c.sync.ensures.crash c.sync.ensures.time c.sync.ensures.cause.later in
    let sized = read_more D c.args.disk.now c.sync.new.self c.len.new.self synced c.len.ensures.same c.len.ensures.crash c.len.ensures.time c.len.ensures.cause.later in
    read_more D c.args.disk.now c.len.new.self c.read.new.self sized c.read.ensures.same c.read.ensures.crash c.read.ensures.time c.read.ensures.cause.later

pub returns-clause-only_read : goal.returns-clause-only_read
returns-clause-only_read g c =
    let D = g.D.Disk in
    let none = unread D c.args.disk.now (g.met.D.Disk.only_now c.args.disk.now) in
    let synced = read_more D c.args.disk.now c.args.disk.now c.sync.new.self none c.sync.ensures.same c.sync.ensures.crash c.sync.ensures.time c.sync.ensures.cause.later in
    let sized = read_more D c.args.disk.now c.sync.new.self c.len.new.self synced c.len.ensures.same c.len.ensures.crash c.len.ensures.time c.len.ensures.cause.later in
    read_more D c.args.disk.now c.len.new.self c.read.new.self sized c.read.ensures.same c.read.ensures.crash c.read.ensures.time c.read.ensures.cause.later
