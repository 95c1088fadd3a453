use Rattle.std.proofs.Common.{Ok, Err, rules}
use Rattle.std.specs.declared.alloc.Global.{Global}
use Rattle.sshc_hosts_words.proofs.Answers.{seen_ok, seen_err, cause_ok, cause_err}
use Rattle.sshc_hosts_words.proofs.hosts_words.run_keys.Goals as goal

pub returns-in-Ok : goal.returns-in-Ok
returns-in-Ok g c = record {
  gives = (
    Ok c.in-Ok.keys.items,
    (
      seen_ok c.in-Ok.keys _ _ c.in-Ok.ensures.answer,
      record {
        same = c.known_host_keys_path.ensures.same;
        appends = c.known_host_keys_path.ensures.others;
        refusal = tt;
        cause = cause_ok _ _ c.in-Ok.keys c.in-Ok.ensures.cause;
      },
    ),
    record { adds = search rules; later = c.add_key_lines.ensures.later },
  );
}

pub returns-in-Err : goal.returns-in-Err
returns-in-Err g c = record {
  gives = (
    Err c.in-Err.e,
    (
      seen_err Global c.in-Err.e _ _ c.in-Err.ensures.answer,
      record {
        same = c.known_host_keys_path.ensures.same;
        appends = c.known_host_keys_path.ensures.others;
        refusal = c.in-Err.ensures.refusal;
        cause = cause_err _ _ c.in-Err.e c.in-Err.ensures.cause;
      },
    ),
    record { adds = c.add_refusal.ensures.adds; later = c.add_refusal.ensures.later },
  );
}
