use Rattle.std.proofs.Common.{[], ◌++◌, ◌+◌, ◌<◌, ◌∙◌, ◌∷◌, ◌≡◌, All, ap, arith, drop, length, length-append, subst, sym, take}
use Rattle.base.proofs.Exports.{All-push}
use Rattle.csv.specs.Records.{fields_of}
use Rattle.policy_file.specs.Exports.{PolicyFileRecordsStateEach}
use Rattle.policy_file.proofs.PolicyFileRows.{ended, next_of, refused_row, state_push, too_many}
use Rattle.policy_file.proofs.file_rows.read_policy_row_records.Goals as goal

pub returns-then-not-branch-clause-read : goal.returns-then-not-branch-clause-read
returns-then-not-branch-clause-read g c = let known = c.loop-records.invariant in
    ended g.R.FileRow.format c.args.records.now c.loop-records.rows.items (fields_of c.read_next.new.fields)
    c.read_next.new.self c.loop-records.records c.in_ok-read_next.field-0 known.stated known.few
    known.within c.if-not-branch.true known.left c.in_ok-read_next.ensures.takes

pub returns-in-Err-clause-read : goal.returns-in-Err-clause-read
returns-in-Err-clause-read g c =
    let known = c.loop-records.invariant in
    let n = length c.loop-records.rows.items in
    let fields = fields_of c.read_next.new.fields in
    let next = next_of c.args.records.now n fields c.read_next.new.self c.loop-records.records
    c.in_ok-read_next.field-0 c.if-not-branch.false known.left c.in_ok-read_next.ensures.takes in
    record {
      stated = known.stated;
      few = known.few;
      within = known.within;
      ends = (
        next.within,
        refused_row g.R.FileRow.format c.args.records.now n fields c.read_next.new.self
            c.in-Err.refusal next (omega arith) (sym c.in-Err.ensures.row),
      );
    }

pub loop-records-preserved : goal.loop-records-preserved
loop-records-preserved g c =
    let known = c.loop-records.invariant in
    let format = g.R.FileRow.format in
    let records = c.args.records.now in
    let rows = c.loop-records.rows.items in
    let row = c.in-Ok.row in
    let fields = fields_of c.read_next.new.fields in
    let room : length rows < 2000 = omega arith in
    let next = next_of records (length rows) fields c.read_next.new.self c.loop-records.records
    c.in_ok-read_next.field-0 c.if-not-branch.false known.left c.in_ok-read_next.ensures.takes in
    let items : c.push.new.self.items ≡ rows ++ row ∷ [] = c.in_ok-push-in-Ok.ensures.items in
    let len : length c.push.new.self.items ≡ length rows + 1 =
    omega (arith, ap length items, length-append rows (row ∷ [])) in
    let pushed : PolicyFileRecordsStateEach format (take (length rows + 1) records) (rows ++ row ∷ []) =
    subst (λ xs. PolicyFileRecordsStateEach format xs (rows ++ row ∷ [])) (sym next.more) (state_push format
    (take (length rows) records) rows fields row known.stated (sym c.in-Ok.ensures.row)) in
    let stated : PolicyFileRecordsStateEach format (take (length rows + 1) records) c.push.new.self.items =
    subst (PolicyFileRecordsStateEach format (take (length rows + 1) records)) (sym items) pushed in record {
      stated = subst (λ k. PolicyFileRecordsStateEach format (take k records) c.push.new.self.items) (sym len) stated;
      left = sym next.rest ∙ ap (λ k. drop k records) (sym len);
      within = omega (arith, len, next.within);
      few = omega (arith, len, room);
      small_ports = subst (All g.R.FileRow.has_small_port) (sym items)
          (All-push g.R.FileRow.has_small_port rows row known.small_ports
          c.in-Ok.ensures.small_port);
    }

pub returns-then-not-branch-2-clause-read : goal.returns-then-not-branch-2-clause-read
returns-then-not-branch-2-clause-read g c = let known = c.loop-records.invariant in
    ended g.R.FileRow.format c.args.records.now c.loop-records.rows.items (fields_of c.read_next-2.new.fields)
    c.read_next-2.new.self c.loop-records.records c.in_ok-read_next-2.field-0 known.stated
    known.few known.within c.if-not-branch-2.true known.left c.in_ok-read_next-2.ensures.takes

pub returns-clause-read : goal.returns-clause-read
returns-clause-read g c =
    let known = c.loop-records.invariant in
    let n = length c.loop-records.rows.items in
    let next = next_of c.args.records.now n (fields_of c.read_next-2.new.fields)
    c.read_next-2.new.self c.loop-records.records c.in_ok-read_next-2.field-0
    c.if-not-branch-2.false known.left c.in_ok-read_next-2.ensures.takes in record {
      stated = known.stated;
      few = known.few;
      within = known.within;
      ends = (next.within, too_many g.R.FileRow.format c.args.records.now n (omega arith));
    }
