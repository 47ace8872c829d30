-- What the opening of a line goes by, of what the tables hold.
use Rattle.theory.specs.Written.{Written}
use Rattle.tables.specs.declared.State.{State}
use Rattle.tables.specs.Tables.{Tables, Holds, Outline}

pub outline : (t : Tables) (s : State) (w : Written) → Holds t s w → Outline t.signatures s w
outline t s w holds =
    record {
      declares = holds.declares;
      counts = holds.claims.count;
      claimed = holds.claimed;
      shipped = holds.shipped.none;
      rules = holds.rules;
      head = λ some. (holds.last some).head;
      head_key = λ some. (holds.last some).head_key;
      multipliers = λ some. (holds.last some).multipliers;
      slots = λ some. (holds.last some).slots;
      ended = holds.ended;
    }
