-- Words of the code: what its private contracts say. No public claim rests on them.
pub mod Reading
