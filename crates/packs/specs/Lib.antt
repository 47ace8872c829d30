-- What loading a text leaves. No public promise cites it.
pub mod Loading
